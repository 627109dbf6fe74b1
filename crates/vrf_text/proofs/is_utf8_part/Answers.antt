-- `vrf_text::is_utf8_part` satisfies its contract.
use Rattle.std.proofs.Common.{rules, ap, ◌∙◌}
use Rattle.vrf_text.specs.Utf8.{utf8}
use Rattle.vrf_text.proofs.Runs.{part}
use Rattle.vrf_text.proofs.is_utf8_part.Goals as goal

pub returns : goal.returns
returns c = c.is_utf8.ensures ∙ ap utf8 (part _ (search rules) _ _ c.requires)
