-- `vrf_store::open::clear_book` satisfies its contract: the header is then that of a book that holds nothing.
use Rattle.vrf_store.proofs.Laws.Opening.Opening.{emptied-enough, cleared}
use Rattle.vrf_store.proofs.open.clear_book.Goals as goal

pub zero_heads-requires : goal.zero_heads-requires
zero_heads-requires c = emptied-enough c.requires c.zero_words.ensures

pub returns : goal.returns
returns c = cleared c.requires c.zero_words.ensures c.zero_heads.ensures
