-- `vrf_path::has_key` satisfies its contract.
use mathlib.Core.Path.{refl, sym}
use Rattle.vrf_path.proofs.Laws.Keys.{core-other}
use Rattle.vrf_path.proofs.Keys.{is-path, is-default, is-core}
use Rattle.vrf_path.proofs.has_key.Goals as goal

pub returns-then-same : goal.returns-then-same
returns-then-same c = is-path _ _ c.same.ensures c.if-same.true

pub returns-then-is_key : goal.returns-then-is_key
returns-then-is_key c =
    is-default _ _ c.same.ensures c.if-same.false c.default_object_alias.ensures.text c.is_key.ensures c.if-is_key.true

-- then the text is neither the path nor its default alias, so the core alias decides
pub returns-then-text-path : goal.returns-then-text-path
returns-then-text-path c =
    is-core _ _ c.same.ensures c.if-same.false c.default_object_alias.ensures.text c.is_key.ensures c.if-is_key.false c.core_alias.ensures.text c.is_key-then-text-path.ensures

pub returns-then-path-text : goal.returns-then-path-text
returns-then-path-text c =
    is-core _ _ c.same.ensures c.if-same.false c.default_object_alias.ensures.text c.is_key.ensures c.if-is_key.false c.core_alias-then-path-text.ensures.text c.is_key-then-path-text.ensures

pub returns : goal.returns
returns c =
    is-core _ _ c.same.ensures c.if-same.false c.default_object_alias.ensures.text c.is_key.ensures c.if-is_key.false refl (sym (core-other _ _ c.if-text-path.false c.if-path-text.false))
