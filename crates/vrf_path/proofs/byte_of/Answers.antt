-- The bytes of the keys with a constant part.
use Rattle.vrf_path.specs.Keys.{default_prefix, characters_core}
use Rattle.vrf_path.proofs.Keys.{byte-prefix, byte-root, byte-prefixed, byte-inserted}
use Rattle.vrf_path.proofs.byte_of.Goals as goal

pub returns-then-i-lt9 : goal.returns-then-i-lt9
unfolding default_prefix
returns-then-i-lt9 c = byte-prefix _ _ c.in-Prefixed.is c.if-i-lt9.true c.byte_at-then-i-lt9.ensures

pub returns-then-i-lt23 : goal.returns-then-i-lt23
unfolding characters_core
returns-then-i-lt23 c = byte-root _ _ c.in-Inserted.is c.if-i-lt23.true c.byte_at-then-i-lt23.ensures

pub returns-else-i-lt9 : goal.returns-else-i-lt9
returns-else-i-lt9 c = byte-prefixed _ _ c.in-Prefixed.is c.if-i-lt9.false c.byte_at-in-Prefixed.ensures

pub returns-else-i-lt23 : goal.returns-else-i-lt23
returns-else-i-lt23 c = byte-inserted _ _ c.in-Inserted.is c.if-i-lt23.false c.byte_after-in-Inserted.ensures
