-- The contract of every function that writes bytes: it writes a code at the front of the slice that it is lent, and answers the code's
-- length. The rest of the slice stays as it was.
use Rattle.std.specs.Prelude.{◌≡◌, ℕ, List, length}
use Rattle.vrf_bitio.specs.Pasted.{pasted}

pub record WritesPrefix (code before after : List ℕ) (n : ℕ) : Type 0 where
  pub bytes : after ≡ pasted before 0 code
  pub count : n ≡ length code
