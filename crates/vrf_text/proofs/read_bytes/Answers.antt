-- `vrf_text::read_bytes` satisfies its contract: each answer follows from the tests before it.
use Rattle.std.proofs.Common.{arith, refl, sym}
use Rattle.std.proofs.lemmas.Result.{err_from_is_err_and}
use Rattle.vrf_bitio.proofs.Laws.Window.{bytes-length}
use Rattle.vrf_text.proofs.Texts.{bytes-refused, bytes-taken, bad-text, no-room, read-into, copied-bytes, never-refused, not-utf8, is-utf8}
use Rattle.vrf_text.proofs.read_bytes.Goals as goal

pub returns-in_err-at : goal.returns-in_err-at
returns-in_err-at c =
    let p = err_from_is_err_and c.from_residual.result c.from_residual.ensures.1 in
    rw (p.1, p.2) (bytes-refused c.args.r.now _ _ _ _ c.take_text.new.r _ c.in_err-at.ensures, refl)

pub overflow_add-at : goal.overflow_add-at
overflow_add-at c = omega (arith, c.in_ok-at.ensures.4)

pub invariant_of-text : goal.invariant_of-text
invariant_of-text c = record { near = omega (arith, c.in_ok-at.ensures.4); short = omega (arith, c.in_ok-at.ensures.0, c.trimmed-k.ensures.1) }

pub returns-then-not-is_utf8 : goal.returns-then-not-is_utf8
returns-then-not-is_utf8 c = (
  bad-text _ c.args.r.now c.take_text.new.r _ _ _ _ (bytes-taken c.args.r.now _ _ _ c.requires c.trimmed-k.ensures.0 c.take_text.new.r _ c.in_ok-at.ensures c.bits_at.ensures)
      _ (not-utf8 _ c.is_utf8.ensures c.if-not-is_utf8.true) c.bad_text.ensures,
  refl,
)

pub returns-in_err-check_room : goal.returns-in_err-check_room
returns-in_err-check_room c =
    let p = err_from_is_err_and c.from_residual-in_err-check_room.result c.from_residual-in_err-check_room.ensures.1 in
    rw (p.1, p.2) (
      no-room _ c.args.r.now c.take_text.new.r _ _ _ _ (bytes-taken c.args.r.now _ _ _ c.requires c.trimmed-k.ensures.0 c.take_text.new.r _ c.in_ok-at.ensures c.bits_at.ensures)
          _ _ (is-utf8 _ c.is_utf8.ensures c.if-not-is_utf8.false) (sym (bytes-length _ _ _)) _ c.in_err-check_room.ensures,
      refl,
    )

pub returns-in_err-copy_bits_to : goal.returns-in_err-copy_bits_to
returns-in_err-copy_bits_to c =
    never-refused c.args.r.now _ c.trimmed-k.result c.in_ok-check_room.ensures.1 (omega (arith, c.in_ok-at.ensures.1, c.trimmed-k.ensures.1)) c.copy_bits_to.new.self _ _ _ c.in_err-copy_bits_to.ensures

pub returns : goal.returns
returns c =
    let t = c.in_ok-at.ensures in
    let b = copied-bytes c.args.r.now _ c.trimmed-k.result c.in_ok-check_room.ensures.1 (omega (arith, t.1, c.trimmed-k.ensures.1)) c.copy_bits_to.new.self _ _ c.in_ok-copy_bits_to.ensures in (
      _,
      (
        read-into _ c.args.r.now c.take_text.new.r _ _ _ _ (bytes-taken c.args.r.now _ _ _ c.requires c.trimmed-k.ensures.0 c.take_text.new.r _ t c.bits_at.ensures)
            _ _ (is-utf8 _ c.is_utf8.ensures c.if-not-is_utf8.false) (sym (bytes-length _ _ _)) t.3 c.in_ok-check_room.ensures,
        (sym (bytes-length _ _ _), rw (t.2, t.3) b),
      ),
    )
