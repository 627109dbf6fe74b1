-- `vrf_store::open::zero_heads` satisfies its contract: all five writes are after the header.
use Rattle.vrf_store.proofs.Laws.Opening.Opening.{kept-heads}
use Rattle.vrf_store.proofs.open.zero_heads.Goals as goal

pub returns : goal.returns
returns c =
    let g = c.guids_allowed-g in
    let r = c.groups_allowed-r in
    let f = c.fields_allowed-f in
    kept-heads g.result r.result f.result c.requires g.ensures.0 r.ensures.0 f.ensures.0
    c.zero_words.ensures c.zero_words-2.ensures c.zero_words-3.ensures c.zero_words-4.ensures c.zero_words-5.ensures
