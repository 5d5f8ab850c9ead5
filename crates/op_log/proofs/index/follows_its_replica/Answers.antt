use Rattle.std.proofs.Common.{◌≡◌, ◌<◌, length, Some, slice_get, ◌+◌, ◌-◌, refl, sym, ap, ◌∙◌, arith}
use Rattle.std.proofs.lemmas.Option.{slice_get_read}
use lib.Pointwise.{bytes_decides}
use Rattle.op_log.proofs.index.follows_its_replica.Goals as goal

pub returns : goal.returns
returns c is =
    let log = c.args.entries.now in
    let at = c.args.at in
    let before = c.index-entries-at.result in
    let here = c.index-entries-at-2.result in
    let within : at < length log = omega (arith, c.if-at-entries.false) in
    let follows : at - 1 + 1 ≡ at = omega (arith, c.if-at-eq0.false) in
    let one_name : c.id.result.replica ≡ c.id-2.result.replica = (bytes_decides c.id.result.replica c.id-2.result.replica).0 (sym c.eq.ensures ∙ is) in
    let same : before.id.replica ≡ here.id.replica = sym (ap (λ i. i.replica) c.id.ensures.value) ∙ one_name ∙ ap (λ i. i.replica) c.id-2.ensures.value in
    let before_there : slice_get log (at - 1) ≡ Some before = slice_get_read log (length log) (at - 1) before refl (omega (arith, within)) c.index-entries-at.is in
    let here_there : slice_get log at ≡ Some here = slice_get_read log (length log) at here refl within c.index-entries-at-2.is in
    (at - 1, here.id.replica, follows, record { op = before; there = before_there; made = same }, record { op = here; there = here_there; made = refl })
