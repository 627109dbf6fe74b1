-- `vrf_text::read_units` satisfies its contract: each answer follows from the tests before it.
use Rattle.std.proofs.Common.{arith, refl, ap, ◌∙◌}
use Rattle.std.proofs.lemmas.Result.{err_from_is_err_and}
use Rattle.vrf_bitio.specs.Pasted.{pasted}
use Rattle.vrf_text.proofs.Texts.{units-refused, units-taken, bad-text, no-room, read-into, one-text}
use Rattle.vrf_text.proofs.read_units.Goals as goal

pub returns-in_err-at : goal.returns-in_err-at
returns-in_err-at c =
    let p = err_from_is_err_and c.from_residual.result c.from_residual.ensures.1 in
    rw (p.1, p.2) (units-refused c.args.r.now _ _ _ _ c.take_text.new.r _ c.in_err-at.ensures, refl)

pub overflow_add-at : goal.overflow_add-at
overflow_add-at c = omega (arith, c.in_ok-at.ensures.4)

pub invariant_of-text : goal.invariant_of-text
invariant_of-text c = record { near = omega (arith, c.in_ok-at.ensures.4); short = omega (arith, c.in_ok-at.ensures.0, c.trimmed-k.ensures.1) }

pub returns-in_default : goal.returns-in_default
returns-in_default c = (
  bad-text _ c.args.r.now c.take_text.new.r _ _ _ _ (units-taken c.args.r.now _ _ _ c.requires.0 c.trimmed-k.ensures.0 c.take_text.new.r _ c.in_ok-at.ensures c.bits_at.ensures)
      _ c.in_default.ensures c.bad_text.ensures,
  refl,
)

pub returns-in_err-check_room : goal.returns-in_err-check_room
returns-in_err-check_room c =
    let p = err_from_is_err_and c.from_residual-in_err-check_room.result c.from_residual-in_err-check_room.ensures.1 in
    let m = c.in-Some.ensures in
    rw (p.1, p.2) (
      no-room _ c.args.r.now c.take_text.new.r _ _ _ _ (units-taken c.args.r.now _ _ _ c.requires.0 c.trimmed-k.ensures.0 c.take_text.new.r _ c.in_ok-at.ensures c.bits_at.ensures)
          _ _ m.1.0 m.1.1 _ c.in_err-check_room.ensures,
      refl,
    )

pub returns : goal.returns
returns c =
    let m = c.in-Some.ensures in (
      m.0,
      (
        read-into _ c.args.r.now c.take_text.new.r _ _ _ _ (units-taken c.args.r.now _ _ _ c.requires.0 c.trimmed-k.ensures.0 c.take_text.new.r _ c.in_ok-at.ensures c.bits_at.ensures)
            _ _ m.1.0 m.1.1 c.in_ok-at.ensures.3 c.in_ok-check_room.ensures,
        (m.1.1, c.put_utf8.ensures.wrote ∙ ap (pasted c.args.out.now 0) (one-text c.put_utf8.ensures.is m.1.0)),
      ),
    )
