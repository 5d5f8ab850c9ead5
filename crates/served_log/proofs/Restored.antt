-- Documents that are restored one behind the other.
use Rattle.std.proofs.Common.{◌≡◌, ◌<◌, ◌+◌, ◌++◌, ◌∷◌, [], ℕ, List, map, take, length, get_or, refl, sym, ap, ap₂, subst, ◌∙◌, arith}
use Rattle.std.proofs.lemmas.List.{get_or-map, length-map, map_more, map_push}
use Rattle.std.specs.Borrow.{Bor}
use Rattle.share_ledger.specs.Begun.{Origin, MayBeNamed}
use Rattle.doc_rules.specs.Document.{Document, new_document}
use Rattle.stored_log.specs.Docs.{Doc, log_of}
use Rattle.locked_doc.specs.Locked.{Locked}
use Rattle.locked_doc.specs.Followed.{Copying}
use Rattle.served_log.specs.Known.{AreKnown, KnowsRows, nothing_read}
use Rattle.served_log.specs.Restored.{origin_at}

-- in the place of a name where there is none
abbrev pub no_name : Bor (List ℕ)
no_name = record { ref_ptr = (0, 0); now = [] }

-- the documents of one name more
pub one_restored : (replica : List ℕ) (kept : List Doc) (seats : ℕ) (names : List (Bor (List ℕ))) (i : ℕ) (name : Bor (List ℕ)) (docs new : List Locked) (doc : Locked)
    → i < length names → new ≡ docs ++ doc ∷ [] → doc.document ≡ new_document replica (log_of (get_or names i name).now kept) seats
    → map (λ d. d.document) docs ≡ map (λ n. new_document replica (log_of n kept) seats) (map (λ s. s.now) (take i names))
    → map (λ d. d.document) new ≡ map (λ n. new_document replica (log_of n kept) seats) (map (λ s. s.now) (take (i + 1) names))
one_restored replica kept seats names i name docs new doc within pushed is before =
    let document : Locked → Document = λ d. d.document in
    let made : List ℕ → Document = λ n. new_document replica (log_of n kept) seats in
    let text : Bor (List ℕ) → List ℕ = λ s. s.now in
    ap (map document) pushed ∙ map_push document docs doc ∙ ap₂ (λ ys y. ys ++ y ∷ []) before is
    ∙ sym (ap (map made) (map_more text names i name within) ∙ map_push made (map text (take i names)) (text (get_or names i name)))

-- the document of the next number begins with the entries of the next name
pub begins_here : {replica : List ℕ} (origin : ℕ → Origin) (kept : List Doc) (names : List (Bor (List ℕ))) (number i : ℕ) (name : Bor (List ℕ))
    → origin ≡ origin_at replica kept (map (λ s. s.now) names) → number ≡ i → i < length names → log_of (get_or names i name).now kept ≡ (origin number).log
begins_here origin kept names number i name are here within =
    let at : (origin number).log ≡ log_of (get_or (map (λ s. s.now) names) i []) kept = ap (λ n. (origin n).log) here ∙ ap (λ (f : ℕ → Origin). (f i).log) are in
    sym (at ∙ ap (λ n. log_of n kept) (get_or-map (λ (s : Bor (List ℕ)). s.now) names i name [] within))

-- and may have the name of the replica
pub named_here : (docs : List Doc) (names : List (List ℕ)) (replica : List ℕ) (origin : ℕ → Origin) (number : ℕ) → origin ≡ origin_at replica docs names
    → MayBeNamed (origin number) replica
named_here docs names replica origin number are = subst (λ (f : ℕ → Origin). MayBeNamed (f number) replica) (sym are) refl

-- the seats of all documents, each of which was opened over what is stored
pub all_seated : (kept : List Doc) (names : List (Bor (List ℕ))) (i : ℕ) (seats : List Copying) → i ≡ length names → length seats ≡ i
    → ((k : ℕ) → k < i → KnowsRows kept (get_or names k no_name).now (get_or seats k nothing_read)) → AreKnown kept (map (λ s. s.now) names) seats
all_seated kept names i seats past long known = record {
  many = long ∙ (past ∙ sym (length-map names (λ (s : Bor (List ℕ)). s.now)));
  each = λ k less.
      let inside : k < length names = omega (arith, less, length-map names (λ (s : Bor (List ℕ)). s.now)) in
      subst (λ n. KnowsRows kept n (get_or seats k nothing_read)) (sym (get_or-map (λ (s : Bor (List ℕ)). s.now) names k no_name [] inside)) (known k (omega (arith, inside, past)));
}
