-- Why a run ends (`Stop`, `src/script.rt`), as it is printed.
use Rattle.std.specs.Prelude.{List, ℕ, codes}
use Rattle.vrf_script.specs.declared.script.Stop.{Stop}
use Rattle.vrf_script.specs.declared.script.Stop.TheVariants.{NoScript, NoSuchCall, TooLarge}

abbrev pub stop_text : Stop → List ℕ
stop_text NoScript = codes "no script"
stop_text NoSuchCall = codes "no such call"
stop_text TooLarge = codes "too large"
