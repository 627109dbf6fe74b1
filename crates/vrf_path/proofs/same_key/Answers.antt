-- The key and the text are the same from place i on if and only if the whole ones are.
use Rattle.std.proofs.Common.{sym, ◌∙◌, arith}
use Rattle.vrf_path.specs.Answers.{key_bytes}
use Rattle.vrf_path.proofs.Laws.Text.{same-lengths, same-differ, same-agree, same_ended}
use Rattle.vrf_path.proofs.same_key.Goals as goal

pub returns-then-bytes_len-text : goal.returns-then-bytes_len-text
returns-then-bytes_len-text c = sym (same-lengths (key_bytes _ c.args.key) _ (λ e. c.if-bytes_len-text.true (c.bytes_len.ensures ∙ e)))

pub returns-then-byte_of-b : goal.returns-then-byte_of-b
returns-then-byte_of-b c =
    let l = c.loop-i in
    sym (l.invariant ∙ same-differ (key_bytes _ c.args.key) _ l.i (omega arith) (omega arith) (λ e. c.if-byte_of-b.true (c.byte_of.ensures ∙ e)))

pub loop-i-preserved : goal.loop-i-preserved
loop-i-preserved c =
    let l = c.loop-i in
    l.invariant ∙ same-agree (key_bytes _ c.args.key) _ l.i (omega arith) (omega arith) (sym c.byte_of.ensures ∙ c.if-byte_of-b.false)

pub returns : goal.returns
returns c = sym (c.loop-i.invariant ∙ same_ended (key_bytes _ c.args.key) _ c.loop-i.i (omega arith) (omega arith))
