-- The first clash refuses the book.
use Rattle.std.proofs.Common.{sym, refl, ap, ◌∙◌}
use Rattle.vrf_table.specs.Inner.Answers.{entry}
use Rattle.vrf_store.specs.Inner.Stepped.{held}
use Rattle.vrf_writer.proofs.Laws.Writes.{writes-clash}
use Rattle.vrf_writer.proofs.write.write_checkpoint_tables.Goals as goal

pub returns-in-Some : goal.returns-in-Some
returns-in-Some c = writes-clash (held c.args.m.now) (sym (ap entry c.in-Some.is) ∙ c.first_clash.ensures) refl
