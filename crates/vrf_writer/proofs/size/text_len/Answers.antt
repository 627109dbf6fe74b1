-- An empty text and any other text.
use Rattle.std.proofs.Common.{sym, arith}
use Rattle.std.proofs.lemmas.Bool.Decides.{nat_tests}
use Rattle.vrf_writer.proofs.Laws.Lengths.{text-none, text-some}
use Rattle.vrf_writer.proofs.size.text_len.Goals as goal

pub returns-then-is_empty : goal.returns-then-is_empty
returns-then-is_empty c = sym (text-none c.args.t.now (grind (arith, nat_tests)))

pub returns : goal.returns
returns c = sym (text-some c.args.t.now (λ z. grind (arith, nat_tests)))
