-- What `applied` acknowledges: its id, and the ids of what was released.
use Rattle.std.proofs.Common.{◌≡◌, inl, inr, ℕ, suc, ◌+◌, Bool, true, false, List, [], ◌∷◌, ◌++◌, length, drop, length-append, append_assoc, Option, Some, None, Result, Ok, Err, refl, sym, ap, ◌∙◌}
use Rattle.std.specs.Prelude.{⊤}
use Rattle.std.proofs.lemmas.List.{length-map}
use Rattle.std.proofs.Math.Seq.{drop-append_seam}
use Rattle.share_ledger.specs.Begun.{Origin}
use Rattle.doc_api.specs.Words.{Id, Refusal, Op, Cursor, Mutation}
use Rattle.doc_api.specs.declared.ask.Command.{Command}
use Rattle.doc_api.specs.declared.ask.Command.TheVariants.{Change, Deliver, Forget}
use Rattle.doc_api.specs.declared.reply.Reply.{Reply}
use Rattle.doc_api.specs.declared.reply.Reply.TheVariants.{Applied}
use Rattle.doc_rules.specs.Cause.{cause_of}
use Rattle.doc_rules.specs.Document.{Document, Acts, count_in}
use Rattle.doc_rules.specs.Events.{Expected, replied, held, logged, Settles, expected_by_cause, changed_rows, expected_at_place, delivered_rows, expected_of_delivery, Forgets, Does, Event}
use Rattle.doc_rules.specs.Replica.{Replica, find_id, own_op}
use Rattle.doc_rules.specs.Seats.{operation_ids}
use Rattle.doc_rules.proofs.Drained.{drain_goes_on}
use Rattle.doc_rules.proofs.Shared.{event_on}
use Rattle.doc_rules.proofs.Tables.{by_rows}
use Rattle.session_rules.specs.Session.{KnownSeat, ids_logged}
use Rattle.session_rules.specs.Shelf.{ActsShared}

-- ---- `applied` comes of what is logged alone

abbrev is_applied : Reply → Bool
is_applied (Applied count dropped i) = true
is_applied _ = false

-- an answer that changes nothing isn't `applied`
abbrev IsOther : Expected → Type 0
IsOther (replied answer) = is_applied answer ≡ false
IsOther _ = Unit {0}

by_cause_other : (cause : Result ⊤ Refusal) (op : Op) → IsOther (expected_by_cause cause op)
by_cause_other (Ok x) op = tt
by_cause_other (Err cause) op = refl

delivered_other : (r : Replica) (op : Op) → IsOther (expected_of_delivery r op)
delivered_other r op =
    by_rows IsOther (delivered_rows r op) (expected_by_cause (cause_of op r.log) op) (
      (λ is. refl),
      λ other. (
        (λ is. refl),
        λ other. (
          (λ is. refl),
          λ other. (
            (λ is. refl),
            λ other. (
              (λ is. refl),
              λ other. (
                (λ is. refl),
                λ other. (
                  (λ is. tt),
                  λ other.
                      by_cause_other (cause_of op r.log) op,
                ),
              ),
            ),
          ),
        ),
      ),
    )

placed_other : (r : Replica) (c : Result Cursor Refusal) (m : Mutation) → IsOther (expected_at_place r c m)
placed_other r (Err cause) m = refl
placed_other r (Ok c) m =
    by_rows IsOther (changed_rows r c m) (logged (own_op r c m))
    ((λ is. refl), λ other. ((λ is. refl), λ other. ((λ is. refl), λ other. ((λ is. refl), λ other. tt))))

-- the log goes on by the operation of this id, and then by others, as many as are counted
record LogsFirst (r : Replica) (count : ℕ) (i : Id) (s : Replica) : Type 0 where
  first : Op
  others : List Op
  log : s.log ≡ r.log ++ first ∷ others
  named : first.id ≡ i
  counted : count ≡ suc (length others)

settles_first : (r s : Replica) (due : Expected) (count dropped : ℕ) (i : Id) → IsOther due → Settles r due (Applied count dropped i) s → LogsFirst r count i s
settles_first r s (replied answer) count dropped i other h = let no : true ≡ false = ap is_applied h.0 ∙ other in cc
settles_first r s (held op) count dropped i other h = let no : true ≡ false = ap is_applied h.0 in cc
settles_first r s (logged op) count dropped i other h =
    let g = drain_goes_on h.drains in
    let is : Applied count dropped i ≡ Applied (suc h.count) h.dropped op.id = h.reply_is in
    let named : op.id ≡ i = cc in
    let counted : count ≡ suc h.count = cc in
    record {
      first = op;
      others = g.new;
      log = g.log ∙ append_assoc r.log (op ∷ []) g.new;
      named = named;
      counted = counted ∙ ap suc (sym g.count);
    }

forgets_first : (r s : Replica) (i : Id) (found : Option Op) (count dropped : ℕ) (of : Id) → Forgets r i found (Applied count dropped of) s → LogsFirst r count of s
forgets_first r s i None count dropped of h = let no : true ≡ false = ap is_applied h.0 in cc
forgets_first r s i (Some o) count dropped of h = let no : true ≡ false = ap is_applied h.0 in cc

does_first : (r s : Replica) (command : Command) (count dropped : ℕ) (i : Id) → Does r command (Applied count dropped i) s → LogsFirst r count i s
does_first r s (Change place m) count dropped i h = settles_first r s (expected_at_place r h.0 m) count dropped i (placed_other r h.0 m) h.2
does_first r s (Deliver op) count dropped i h = settles_first r s (expected_of_delivery r op) count dropped i (delivered_other r op) h
does_first r s (Forget named) count dropped i h = forgets_first r s named (find_id r.held named) count dropped i h

event_first : (r s : Replica) (command : Command) (count dropped : ℕ) (i : Id) → Event r command (Applied count dropped i) s → LogsFirst r count i s
event_first r s command count dropped i (inl does) = does_first r s command count dropped i does
event_first r s command count dropped i (inr lacks) = let no : true ≡ false = ap is_applied lacks.0 in cc

-- ---- of a document

-- by so many ids as the reply counts
pub count_logged : (d e : Document) (seat : ℕ) (command : Command) (reply : Reply) → Acts d seat command reply e → length (ids_logged d e) ≡ count_in reply
count_logged d e seat command reply acts =
    let on = event_on d.replica acts.0 command reply acts.1 in
    let log : e.replica.log ≡ d.replica.log ++ on.new = ap (λ (x : Document). x.replica.log) acts.2 ∙ on.log in
    let new : drop (length d.replica.log) e.replica.log ≡ on.new = ap (drop (length d.replica.log)) log ∙ drop-append_seam d.replica.log on.new in
    length-map (drop (length d.replica.log) e.replica.log) (λ op. op.id) ∙ ap length new ∙ on.count

module _ (origin : ℕ → Origin) (number : ℕ) (s t : KnownSeat) (command : Command) where
  pub applied_first : (count dropped : ℕ) (i : Id) → ActsShared origin number s command (Applied count dropped i) t
      → (others : List Id) × (t.told ≡ s.told ++ i ∷ others) × (count ≡ length (i ∷ others))
  applied_first count dropped i (d, e, at, here, acts, is) =
      let f = event_first d.replica acts.0 command count dropped i acts.1 in
      let log : e.replica.log ≡ d.replica.log ++ f.first ∷ f.others = ap (λ (x : Document). x.replica.log) acts.2 ∙ f.log in
      let new : drop (length d.replica.log) e.replica.log ≡ f.first ∷ f.others =
      ap (drop (length d.replica.log)) log ∙ drop-append_seam d.replica.log (f.first ∷ f.others) in
      let ids : ids_logged d e ≡ i ∷ operation_ids f.others = ap operation_ids new ∙ ap (λ j. j ∷ operation_ids f.others) f.named in (
        operation_ids f.others,
        ap (λ (x : KnownSeat). x.told) is ∙ ap (λ l. s.told ++ l) ids,
        f.counted ∙ ap suc (sym (length-map f.others (λ op. op.id))),
      )

  pub counted : (reply : Reply) → ActsShared origin number s command reply t → length t.told ≡ length s.told + count_in reply
  counted reply (d, e, at, here, acts, is) =
      ap (λ (x : KnownSeat). length x.told) is ∙ length-append s.told (ids_logged d e)
      ∙ ap (λ n. length s.told + n) (count_logged d e s.number command reply acts)
