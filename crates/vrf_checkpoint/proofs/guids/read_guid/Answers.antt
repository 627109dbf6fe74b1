-- `vrf_checkpoint::guids::read_guid` satisfies its contract: GUID, outer, kind byte, path and flags byte, then the setting.
use Rattle.std.specs.Prelude.{ℕ, Ok}
use Rattle.std.proofs.Common.{refl, sym, subst, length-take-le}
use Rattle.vrf_bitio.specs.Reading.{Read}
use Rattle.vrf_bitio.specs.Answers.{Gave}
use Rattle.vrf_bitio.specs.declared.BitReader.{BitReader}
use Rattle.vrf_text.specs.Text.{IsText}
use Rattle.vrf_model.specs.Block.{by_table, path_of_kind}
use Rattle.vrf_reader.specs.Inner.Within.{SameWindow}
use Rattle.vrf_reader.proofs.Laws.Simulates.{window-then, gave-window, stops}
use Rattle.vrf_checkpoint.specs.Inner.Guids.{PathOf}
use Rattle.vrf_checkpoint.proofs.Laws.Ends.{err-passed}
use Rattle.vrf_checkpoint.proofs.Laws.Guids.{represents-on, counting-on, no_kind, kind-simulates, path-on, no-flags, set-taken, set-refused}
use Rattle.vrf_checkpoint.proofs.Laws.Guids.{no-path, entry-ended, entry-refused, no-guid, no_outer, guid-simulates, guid-on}
use Rattle.vrf_checkpoint.proofs.guids.read_guid.Goals as goal

-- three readings in turn stay in one window
in-window : {r d e f : BitReader} {x y z : Read ℕ} {u v w : ℕ} → Gave r x u d → Gave d y v e → Gave e z w f → SameWindow r f
in-window g h k = window-then (gave-window g) (window-then (gave-window h) (gave-window k))

pub returns-in_err-guid : goal.returns-in_err-guid
returns-in_err-guid c = λ table represents.
    rw (err-passed _ _ c.from_residual.ensures.1) (no-guid c.requires.good _ table _ c.in_err-guid.ensures.0)

pub returns-in_err-outer : goal.returns-in_err-outer
returns-in_err-outer c = λ table represents.
    rw (err-passed _ _ c.from_residual-in_err-outer.ensures.1)
    (no_outer c.requires.good _ table c.in_ok-guid.ensures _ c.in_err-outer.ensures.0)

pub returns-in_err-kind : goal.returns-in_err-kind
returns-in_err-kind c = λ table represents.
    let good = c.requires.good in
    let entry = guid-simulates good c.args.entry table c.in_ok-guid.ensures c.in_ok-outer.ensures in
    rw (err-passed _ _ c.from_residual-in_err-kind.ensures.1)
    (stops entry _ (no-path _ _ _ table _ (no_kind good _ table _ c.in_err-kind.ensures.0)))

pub read_path-requires : goal.read_path-requires
read_path-requires c = counting-on (in-window c.in_ok-guid.ensures c.in_ok-outer.ensures c.in_ok-kind.ensures) c.requires

pub returns-in_err-n : goal.returns-in_err-n
returns-in_err-n c = λ table represents.
    let good = c.requires.good in
    let entry = guid-simulates good c.args.entry table c.in_ok-guid.ensures c.in_ok-outer.ensures in
    let kind = kind-simulates good c.args.entry table c.in_ok-kind.ensures in
    let window = in-window c.in_ok-guid.ensures c.in_ok-outer.ensures c.in_ok-kind.ensures in
    let path = stops kind _ (c.in_err-n.ensures table (represents-on window refl represents)) in
    rw (err-passed _ _ c.from_residual-in_err-n.ensures.1) (stops entry _ (no-path _ _ _ table _ path))

pub returns-in_err-read_u8 : goal.returns-in_err-read_u8
returns-in_err-read_u8 c = λ table represents.
    let good = c.requires.good in
    let entry = guid-simulates good c.args.entry table c.in_ok-guid.ensures c.in_ok-outer.ensures in
    let kind = kind-simulates good c.args.entry table c.in_ok-kind.ensures in
    let window = in-window c.in_ok-guid.ensures c.in_ok-outer.ensures c.in_ok-kind.ensures in
    let path = path-on kind _ _ _ _ (Ok _) (c.in_ok-n.ensures table (represents-on window refl represents)) in
    rw (err-passed _ _ c.from_residual-in_err-read_u8.ensures.1)
    (stops entry _ (entry-refused _ _ _ table path _ (no-flags path.simulates.good _ _ _ _ c.in_err-read_u8.ensures.0)))

-- the path that was read, for the table that the contract requires
path_read : (c : goal.After-set_net_guid_path-arg-1) →
    PathOf (path_of_kind by_table c.args.entry c.requires.table c.in_ok-kind.kind) c.read_u8.new.self c.read_path.new.reader c.args.m.now
    c.read_path.new.m c.read_path.new.scratch c.args.entry c.in_ok-n.n c.in_ok-n.t
path_read c =
    let window = in-window c.in_ok-guid.ensures c.in_ok-outer.ensures c.in_ok-kind.ensures in
    c.in_ok-n.ensures c.requires.table (represents-on window refl c.requires.represents)

pub slice_bounds-set_net_guid_path-end-2 : goal.slice_bounds-set_net_guid_path-end-2
slice_bounds-set_net_guid_path-end-2 c = sym (length-take-le _ _ (path_read c).fits)

pub set_net_guid_path-requires : goal.set_net_guid_path-requires
set_net_guid_path-requires c = let p = path_read c in (p.simulates.good, subst IsText (sym p.here) p.is_text)

pub returns-in_err-set_net_guid_path : goal.returns-in_err-set_net_guid_path
returns-in_err-set_net_guid_path c = λ table represents.
    let good = c.requires.good in
    let entry = guid-simulates good c.args.entry table c.in_ok-guid.ensures c.in_ok-outer.ensures in
    let kind = kind-simulates good c.args.entry table c.in_ok-kind.ensures in
    let window = in-window c.in_ok-guid.ensures c.in_ok-outer.ensures c.in_ok-kind.ensures in
    let path = path-on kind _ _ _ _ (Ok _) (c.in_ok-n.ensures table (represents-on window refl represents)) in
    let end = set-refused path.simulates.good _ _ _ c.in_ok-read_u8.ensures _ c.in_err-set_net_guid_path.ensures in
    rw (err-passed _ _ c.from_residual-in_err-set_net_guid_path.ensures.1) (stops entry _ (entry-refused _ _ _ table path _ end))

pub returns : goal.returns
returns c = λ table represents.
    let good = c.requires.good in
    let entry = guid-simulates good c.args.entry table c.in_ok-guid.ensures c.in_ok-outer.ensures in
    let kind = kind-simulates good c.args.entry table c.in_ok-kind.ensures in
    let window = in-window c.in_ok-guid.ensures c.in_ok-outer.ensures c.in_ok-kind.ensures in
    let path = path-on kind _ _ _ _ (Ok _) (c.in_ok-n.ensures table (represents-on window refl represents)) in
    let end = set-taken path.simulates.good _ _ _ c.in_ok-read_u8.ensures c.in_ok-set_net_guid_path.ensures in
    guid-on entry _ _ _ (Ok _) (entry-ended _ _ _ table path end)
