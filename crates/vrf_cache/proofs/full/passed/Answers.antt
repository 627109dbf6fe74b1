-- The tests are those of `passed_by`.
use Rattle.std.proofs.Common.{sym, arith}
use Rattle.vrf_cache.proofs.Laws.Passed.{passes-guids, passes-groups, passes-fields, passes-text, passes_none}
use Rattle.vrf_cache.proofs.full.passed.Goals as goal

pub returns-then-guids_allowed-guids : goal.returns-then-guids_allowed-guids
returns-then-guids_allowed-guids c = passes-guids _ _ _ _ _ (omega arith)

pub returns-then-groups_allowed-groups : goal.returns-then-groups_allowed-groups
returns-then-groups_allowed-groups c = passes-groups _ _ _ _ _ (omega arith) (omega arith)

pub returns-then-fields_allowed-fields : goal.returns-then-fields_allowed-fields
returns-then-fields_allowed-fields c = passes-fields _ _ _ _ _ (omega arith) (omega arith) (omega arith)

pub returns-then-text_allowed-text : goal.returns-then-text_allowed-text
returns-then-text_allowed-text c = passes-text _ _ _ _ _ (omega arith) (omega arith) (omega arith) (omega arith)

pub returns : goal.returns
returns c = sym (passes_none _ _ _ _ _ (omega arith) (omega arith) (omega arith) (omega arith))
