-- `vrf_reader::names::read_text_name` satisfies its contract: a text, then its number.
use Rattle.std.specs.Prelude.{Ok, Err}
use mir.Facts.{to_z-of_z}
use mir.Syntax.{w32}
use Rattle.std.proofs.Common.{arith, rules}
use Rattle.vrf_bitio.proofs.Laws.Answers.{refused-first}
use Rattle.vrf_text.specs.Text.{fstring}
use Rattle.vrf_model.specs.Names.{text_name}
use Rattle.vrf_reader.proofs.Laws.Texts.{text-passed-on, is-small, numberless, text_name_in}
use Rattle.vrf_reader.proofs.names.read_text_name.Goals as goal

pub returns-in_err-n : goal.returns-in_err-n
unfolding text_name
returns-in_err-n c =
    text-passed-on _ _ _ _ _ c.from_residual.ensures.1 (refused-first c.args.reader.now fstring _ c.in_err-n.ensures.reads)

pub returns-in_err-number : goal.returns-in_err-number
returns-in_err-number c =
    text-passed-on _ _ _ _ _ c.from_residual-in_err-number.ensures.1 (numberless c.in_ok-n.ensures.reads _ c.in_err-number.ensures.0)

pub returns-in_err-render_fname : goal.returns-in_err-render_fname
returns-in_err-render_fname c =
    text-passed-on _ _ _ _ _ c.from_residual-in_err-render_fname.ensures.1 (text_name_in c.in_ok-n.ensures.reads _ _ (omega arith) c.in_ok-number.ensures (to_z-of_z {w = w32} (search rules)) (Err c.in_err-render_fname.field-0.0) c.in_err-render_fname.ensures)

pub overflow_cast-result : goal.overflow_cast-result
overflow_cast-result c = record { fits = omega (arith, is-small _ c.in_ok-render_fname.ensures) }

pub returns : goal.returns
returns c =
    text_name_in c.in_ok-n.ensures.reads _ _ (omega arith) c.in_ok-number.ensures (to_z-of_z {w = w32} (search rules)) (Ok c.in_ok-render_fname.field-0) c.in_ok-render_fname.ensures
