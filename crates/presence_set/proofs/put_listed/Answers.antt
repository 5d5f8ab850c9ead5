use Rattle.std.proofs.Common.{◌≡◌, ◌<◌, ◌∙◌, sym, ap, subst, set, length, get_or, true, false, arith}
use Rattle.crdt_rules.specs.Same.{id_eq}
use Rattle.std.specs.Prelude.{insert}
use Rattle.presence_set.specs.ById.{put_at_id, rank}
use Rattle.presence_set.proofs.ByIdLaws.{put-found, put-missing}
use Rattle.presence_set.proofs.put_listed.Goals.{else-at-listed-via-then-at-listed+else-eq, else-at-listed-via-else-at-listed}
use Rattle.presence_set.proofs.put_listed.Goals as goal

pub returns-then-eq-clause-items : goal.returns-then-eq-clause-items
returns-then-eq-clause-items g c =
    let listed = c.as_slice-listed.result.now in
    let at : c.rank_of-at.result ≡ rank listed c.args.id = c.rank_of-at.ensures.value in
    let d = c.index-listed-at.result in
    let within : c.rank_of-at.result < length listed = omega arith in
    let same : id_eq (get_or listed (rank listed c.args.id) d).0 c.args.id ≡ true =
    subst (λ n. id_eq (get_or listed n d).0 c.args.id ≡ true) at (sym c.if-eq.ensures) in
    let changed : put_at_id listed c.args.id c.args.value ≡ set listed c.rank_of-at.result (c.args.id, c.args.value) =
    put-found listed c.args.id c.args.value d (subst (λ n. n < length listed) at within) same ∙ ap (λ n. set listed n (c.args.id, c.args.value)) (sym at) in
    c.set.ensures.elements ∙ subst (λ l. set l c.rank_of-at.result (c.args.id, c.args.value) ≡ put_at_id l c.args.id c.args.value) c.as_slice-listed.ensures (sym changed)

pub returns-else-at-listed-clause-items : goal.returns-else-at-listed-clause-items
returns-else-at-listed-clause-items g c =
    let listed = c.as_slice-listed.result.now in
    let at : c.rank_of-at.result ≡ rank listed c.args.id = c.rank_of-at.ensures.value in
    let missing : put_at_id listed c.args.id c.args.value ≡ insert listed (rank listed c.args.id) (c.args.id, c.args.value) =
    elim c.else-at-listed.branch [
      | else-at-listed-via-then-at-listed+else-eq w ↦ put-missing listed c.args.id c.args.value w.index-listed-at.result
          (λ within. subst (λ n. id_eq (get_or listed n w.index-listed-at.result).0 c.args.id ≡ false) at (sym w.if-eq.ensures))
      | else-at-listed-via-else-at-listed w ↦ put-missing listed c.args.id c.args.value (c.args.id, c.args.value)
          (λ within. absurd (omega (arith, at, within, w.if-at-listed.false)))
    ] in
    let changed = missing ∙ ap (λ n. insert listed n (c.args.id, c.args.value)) (sym at) in
    c.insert_reserved.ensures.elements ∙ subst (λ l. insert l c.rank_of-at.result (c.args.id, c.args.value) ≡ put_at_id l c.args.id c.args.value) c.as_slice-listed.ensures (sym changed)
