-- `vrf_store::parts::texts` satisfies its contract: the half in use is inside the memory.
use Rattle.std.proofs.Common.{◌≡◌, ◌+◌, ◌-◌, arith}
use Rattle.vrf_words.specs.Words.{part}
use Rattle.vrf_store.specs.Store.{allowances_of, header_of}
use Rattle.vrf_store.proofs.Laws.Memory.Regions.{half-within}
use Rattle.vrf_store.proofs.parts.texts.Goals as goal

pub overflow_add-to : goal.overflow_add-to
overflow_add-to c = let m = c.args.m.now in omega (arith, half-within (allowances_of m) (header_of m).half)

pub slice_bounds-result-end : goal.slice_bounds-result-end
slice_bounds-result-end c = let m = c.args.m.now in omega (arith, half-within (allowances_of m) (header_of m).half)

pub returns : goal.returns
unfolding part
returns c =
    let at = c.half_at-from.result in
    let n = c.text_allowed.result in
    let size : at + n - at ≡ n = omega arith in
    rw (size, c.half_at-from.ensures, c.text_allowed.ensures.0)
