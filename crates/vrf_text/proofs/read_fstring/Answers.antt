-- `vrf_text::read_fstring` satisfies its contract: it reads the length word, and then the bytes or units.
use Rattle.std.proofs.Common.{refl}
use Rattle.std.proofs.lemmas.Result.{err_from_is_err_and}
use Rattle.vrf_text.specs.declared.Length.TheVariants.{Empty, Bytes, Units}
use Rattle.vrf_text.proofs.Words.{worded, word-refused, says, then-bytes, then-units, given, not-given, given-none}
use Rattle.vrf_text.proofs.read_fstring.Goals as goal

pub returns-in_err-read_i32 : goal.returns-in_err-read_i32
returns-in_err-read_i32 c =
    let p = err_from_is_err_and c.from_residual.result c.from_residual.ensures.1 in
    rw (p.1, p.2) (word-refused c.args.r.now _ _ c.in_err-read_i32.ensures.0, (refl, refl))

pub returns-in_err-len-in-Bytes : goal.returns-in_err-len-in-Bytes
returns-in_err-len-in-Bytes c =
    let p = err_from_is_err_and c.from_residual-in_err-len-in-Bytes.result c.from_residual-in_err-len-in-Bytes.ensures.1 in
    let d = worded c.args.r.now _ _ c.in_ok-read_i32.ensures in
    let l = says _ d (Bytes c.in-Bytes.n) c.in-Bytes.ensures in
    let a = c.in_err-len-in-Bytes.ensures in
    rw (p.1, p.2) (not-given _ d _ _ (then-bytes _ d _ l.0 l.1) _ a.0, (refl, a.1))

pub returns-in_err-len-in-Units : goal.returns-in_err-len-in-Units
returns-in_err-len-in-Units c =
    let p = err_from_is_err_and c.from_residual-in_err-len-in-Units.result c.from_residual-in_err-len-in-Units.ensures.1 in
    let d = worded c.args.r.now _ _ c.in_ok-read_i32.ensures in
    let l = says _ d (Units c.in-Units.n) c.in-Units.ensures in
    let a = c.in_err-len-in-Units.ensures in
    rw (p.1, p.2) (not-given _ d _ _ (then-units _ d _ l.0 l.1) _ a.0, (refl, a.1))

pub returns-in-Empty : goal.returns-in-Empty
returns-in-Empty c =
    let d = worded c.args.r.now _ _ c.in_ok-read_i32.ensures in
    given-none _ d _ (says _ d Empty c.in-Empty.ensures) _

pub returns-in_ok-len-in-Bytes : goal.returns-in_ok-len-in-Bytes
returns-in_ok-len-in-Bytes c =
    let d = worded c.args.r.now _ _ c.in_ok-read_i32.ensures in
    let l = says _ d (Bytes c.in-Bytes.n) c.in-Bytes.ensures in
    given _ d _ _ (then-bytes _ d _ l.0 l.1) _ _ _ _ c.in_ok-len-in-Bytes.ensures

pub returns-in_ok-len-in-Units : goal.returns-in_ok-len-in-Units
returns-in_ok-len-in-Units c =
    let d = worded c.args.r.now _ _ c.in_ok-read_i32.ensures in
    let l = says _ d (Units c.in-Units.n) c.in-Units.ensures in
    given _ d _ _ (then-units _ d _ l.0 l.1) _ _ _ _ c.in_ok-len-in-Units.ensures
