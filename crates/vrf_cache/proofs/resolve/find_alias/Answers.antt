-- A path without the alias has no group for it.
use Rattle.std.proofs.Common.{sym, ap, ◌∙◌}
use Rattle.vrf_path.proofs.Laws.Answers.{spelled-absent}
use Rattle.vrf_table.specs.Inner.Answers.{entry}
use Rattle.vrf_store.specs.Inner.Stepped.{held}
use Rattle.vrf_cache.proofs.Laws.Resolve.{toggle-none}
use Rattle.vrf_cache.proofs.resolve.find_alias.Goals as goal

pub returns-in_err-key : goal.returns-in_err-key
returns-in_err-key c = ap entry c.from_residual.ensures ∙ sym (toggle-none (held c.args.m.now).groups (spelled-absent c.args.path.now c.in_err-key.was))
