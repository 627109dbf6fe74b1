-- A key differs from its path by 0, 6 or 9 bytes in length.
use Rattle.std.proofs.Common.{◌≡◌, ◌⊎◌, false, arith}
use Rattle.std.proofs.lemmas.Grind.{common_steps}
use Rattle.vrf_path.specs.Keys.{has_key}
use Rattle.vrf_writer.proofs.Laws.Clash.{key-lengths}
use Rattle.vrf_writer.proofs.clash.is_key_of.Goals as goal

pub returns-else-d-eq9 : goal.returns-else-d-eq9
returns-else-d-eq9 c =
    let d = c.abs_diff-d.result in
    let lengths : (has_key c.args.path.now c.args.k.now ≡ false) ⊎ ((d ≡ 0) ⊎ ((d ≡ 6) ⊎ (d ≡ 9))) =
    key-lengths c.args.path.now c.args.k.now (omega (arith, c.abs_diff-d.ensures)) in
    grind (arith, common_steps)
