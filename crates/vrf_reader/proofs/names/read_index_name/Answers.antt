-- `vrf_reader::names::read_index_name` satisfies its contract.
use Rattle.std.specs.Prelude.{Ok, Err}
use Rattle.std.proofs.Common.{arith}
use Rattle.vrf_bitio.specs.Number.{packed}
use Rattle.vrf_bitio.proofs.Laws.Answers.{refused-first}
use Rattle.vrf_model.specs.Names.{index_name}
use Rattle.vrf_reader.proofs.Laws.Texts.{text-passed-on, is-small, index_in}
use Rattle.vrf_reader.proofs.names.read_index_name.Goals as goal

pub returns-in_err-index : goal.returns-in_err-index
unfolding index_name
returns-in_err-index c =
    text-passed-on _ _ _ _ _ c.from_residual.ensures.1 (refused-first c.args.reader.now packed _ c.in_err-index.ensures.0)

pub returns-in_err-render_index : goal.returns-in_err-render_index
returns-in_err-render_index c =
    text-passed-on _ _ _ _ _ c.from_residual-in_err-render_index.ensures.1 (index_in c.requires (Err c.in_err-render_index.field-0.0) (omega arith) c.in_ok-index.ensures c.in_err-render_index.ensures)

pub overflow_cast-result : goal.overflow_cast-result
overflow_cast-result c = record { fits = omega (arith, is-small _ c.in_ok-render_index.ensures) }

pub returns : goal.returns
returns c = index_in c.requires (Ok c.in_ok-render_index.field-0) (omega arith) c.in_ok-index.ensures c.in_ok-render_index.ensures
