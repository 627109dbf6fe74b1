-- One test for each key.
use Rattle.std.proofs.Common.{◌≡◌, ℕ, ◌<◌, ◌≤◌, List, length, arith}
use Rattle.std.proofs.lemmas.Grind.{common_steps}
use Rattle.vrf_table.specs.Table.{text}
use Rattle.vrf_table.specs.declared.GroupRows.{GroupRows}
use Rattle.vrf_store.proofs.Laws.Check.Steps.{path-short}
use Rattle.vrf_check.specs.Inner.Steps.{keys_reach, ShortTexts}
use Rattle.vrf_check.proofs.Laws.Steps.{own-key, default-key, core-key}
use Rattle.vrf_check.proofs.keys_ok.Goals.{then-reaches, else-reaches}
use Rattle.vrf_check.proofs.keys_ok.Goals as goal

-- the path of a group is short
short : (t : GroupRows) {g : ℕ} {path : List ℕ} → ShortTexts t → g < t.count → path ≡ text t.rows.now t.texts.now g → length path ≤ 4096
short t {g} few h e = path-short t.rows.now t.texts.now g e (t.texts_in g h) (few g h)

pub reaches-requires : goal.reaches-requires
reaches-requires c = omega (arith, short c.args.index.groups c.requires.0 c.requires.1 c.path-path.ensures)

pub alias_ok-requires : goal.alias_ok-requires
alias_ok-requires c = short c.args.index.groups c.requires.0 c.requires.1 c.path-path.ensures

pub alias_ok-requires-then-alias_ok : goal.alias_ok-requires-then-alias_ok
alias_ok-requires-then-alias_ok c = short c.args.index.groups c.requires.0 c.requires.1 c.path-path.ensures

pub returns-then-alias_ok : goal.returns-then-alias_ok
unfolding keys_reach
returns-then-alias_ok c =
    let t = c.args.index in
    let own = own-key t.groups.rows.now t.groups.texts.now t.links.now t.heads.now t.buckets t.groups.count c.args.g c.path-path.ensures c.reaches.ensures in
    let core = core-key t.groups.rows.now t.groups.texts.now t.links.now t.heads.now t.buckets t.groups.count c.args.g c.path-path.ensures c.core_alias.ensures.text c.alias_ok-then-alias_ok.ensures in
    elim c.if-reaches.branch [
      | then-reaches w ↦
          let default = default-key t.groups.rows.now t.groups.texts.now t.links.now t.heads.now t.buckets t.groups.count c.args.g c.path-path.ensures c.default_object_alias-default.ensures.text w.alias_ok.ensures in
          grind (arith, common_steps)
      | else-reaches w ↦ grind (arith, common_steps)
    ]

pub returns-else-alias_ok : goal.returns-else-alias_ok
unfolding keys_reach
returns-else-alias_ok c =
    let t = c.args.index in
    let own = own-key t.groups.rows.now t.groups.texts.now t.links.now t.heads.now t.buckets t.groups.count c.args.g c.path-path.ensures c.reaches.ensures in
    elim c.if-reaches.branch [
      | then-reaches w ↦
          let default = default-key t.groups.rows.now t.groups.texts.now t.links.now t.heads.now t.buckets t.groups.count c.args.g c.path-path.ensures c.default_object_alias-default.ensures.text w.alias_ok.ensures in
          grind (arith, common_steps)
      | else-reaches w ↦ grind (arith, common_steps)
    ]
