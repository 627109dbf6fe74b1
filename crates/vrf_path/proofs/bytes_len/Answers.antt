-- The lengths of the keys with a constant part.
use Rattle.vrf_path.proofs.Keys.{len-prefixed, len-inserted}
use Rattle.vrf_path.proofs.bytes_len.Goals as goal

pub returns-in-Prefixed : goal.returns-in-Prefixed
returns-in-Prefixed c = len-prefixed _ c.in-Prefixed.is

pub returns-in-Inserted : goal.returns-in-Inserted
returns-in-Inserted c = len-inserted _ c.in-Inserted.is c.saturating_sub-in-Inserted.ensures
