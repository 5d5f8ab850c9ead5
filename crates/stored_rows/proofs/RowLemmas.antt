-- The rows of documents, one of which gets more entries.
use Rattle.std.proofs.Common.{◌≡◌, ◌+◌, ◌≤◌, ℕ, suc, List, [], ◌∷◌, ◌++◌, length, map, Bool, true, false, cond, ◌||◌, refl, ap, ◌∙◌, append-nil, append_assoc, arith, length-append}
use Rattle.std.specs.List.{list_any}
use Rattle.std.specs.Ordering.{is_lt}
use Rattle.std.proofs.lemmas.List.{map-append}
use Rattle.std.specs.List.Sorted.{IsPermutation}
use Rattle.std.proofs.lemmas.List.Sorted.{IsPermutation-refl, IsPermutation-append_right, IsPermutation-append_comm}
use Rattle.std.proofs.lemmas.Slice.Eq.{bytes_eq-Decides}
use Rattle.sqlite.specs.Order.{Row}
use Rattle.doc_api.specs.Words.{name_cmp, Op}
use Rattle.crdt_rules.specs.Log.{IsGood}
use Rattle.crdt_rules.proofs.Logs.{by_fits}
use Rattle.stored_rows.specs.Content.{rows_from}
use Rattle.stored_rows.proofs.TextRowLemmas.{rows_from-append}
use Rattle.stored_log.specs.Docs.{Doc, op_text, is_named, log_of, longer_by, extend, put_doc, add_log}
use Rattle.stored_log.proofs.DocLemmas.{log_if_none}
use Rattle.stored_rows.specs.Rows.{doc_rows, rows_of}

-- a good log has at most 100,000 operations
pub few_rows : (log : List Op) → IsGood log → length log ≤ 100000
few_rows log good = by_fits (λ l. length l ≤ 100000) (omega arith) (λ l op g fits few. omega (arith, length-append l (op ∷ []), fits.room.operations)) log good

length-texts : (ops : List Op) → length (map op_text ops) ≡ length ops
length-texts [] = refl
length-texts (op ∷ ops) = ap suc (length-texts ops)

doc_rows-behind : (more : List Op) (d : Doc) → doc_rows (longer_by more d) ≡ doc_rows d ++ rows_from d.name (length d.log + 1) (map op_text more)
doc_rows-behind more d =
    let place : 1 + length (map op_text d.log) ≡ length d.log + 1 = omega (arith, length-texts d.log) in
    ap (rows_from d.name 1) (map-append op_text d.log more) ∙ rows_from-append d.name 1 (map op_text d.log) (map op_text more) ∙ ap (λ p. doc_rows d ++ rows_from d.name p (map op_text more)) place

module _ (name : List ℕ) (more : List Op) where
  abbrev new_rows : ℕ → List Row
  new_rows before = rows_from name (before + 1) (map op_text more)

  rows_extended : (docs : List Doc) → list_any (λ e. is_named name e) docs ≡ true → IsPermutation (rows_of docs ++ new_rows (length (log_of name docs))) (rows_of (extend name more docs))
  rows_extended [] some = absurd cc
  rows_extended (x ∷ docs) some = go (is_named name x) refl some (rows_extended docs)
    where
      go : (b : Bool) → is_named name x ≡ b → (b || list_any (λ e. is_named name e) docs) ≡ true
          → (list_any (λ e. is_named name e) docs ≡ true → IsPermutation (rows_of docs ++ new_rows (length (log_of name docs))) (rows_of (extend name more docs)))
          → IsPermutation (rows_of (x ∷ docs) ++ new_rows (length (cond b x.log (log_of name docs)))) (rows_of (cond b (longer_by more x ∷ docs) (x ∷ extend name more docs)))
      go true is some later =
          let old = doc_rows x in
          let new = new_rows (length x.log) in
          let whole : doc_rows (longer_by more x) ≡ old ++ new = doc_rows-behind more x ∙ ap (λ n. old ++ rows_from n (length x.log + 1) (map op_text more)) ((bytes_eq-Decides x.name name).0 is) in
          rw (whole, append_assoc old (rows_of docs) new, append_assoc old new (rows_of docs)) (IsPermutation-append_right old _ _ (IsPermutation-append_comm (rows_of docs) new))
      go false is some later =
          let old = doc_rows x in rw (append_assoc old (rows_of docs) (new_rows (length (log_of name docs)))) (IsPermutation-append_right old _ _ (later some))

rows_put : (new : Doc) (docs : List Doc) → IsPermutation (rows_of docs ++ doc_rows new) (rows_of (put_doc new docs))
rows_put new [] = rw append-nil (IsPermutation-refl (doc_rows new))
rows_put new (x ∷ docs) = go (is_lt (name_cmp new.name x.name)) (rows_put new docs)
  where
    go : (b : Bool) → IsPermutation (rows_of docs ++ doc_rows new) (rows_of (put_doc new docs)) → IsPermutation (rows_of (x ∷ docs) ++ doc_rows new) (rows_of (cond b (new ∷ x ∷ docs) (x ∷ put_doc new docs)))
    go true later = IsPermutation-append_comm (rows_of (x ∷ docs)) (doc_rows new)
    go false later = rw (append_assoc (doc_rows x) (rows_of docs) (doc_rows new)) (IsPermutation-append_right (doc_rows x) _ _ later)

-- the rows are those from before and the new ones
pub rows_added : (name : List ℕ) (more : List Op) (docs : List Doc) → IsPermutation (rows_of docs ++ rows_from name (length (log_of name docs) + 1) (map op_text more)) (rows_of (add_log name more docs))
rows_added name more docs = go (list_any (λ e. is_named name e) docs) refl
  where
    go : (b : Bool) → list_any (λ e. is_named name e) docs ≡ b
        → IsPermutation (rows_of docs ++ rows_from name (length (log_of name docs) + 1) (map op_text more)) (rows_of (cond b (extend name more docs) (put_doc (record { name = name; log = more }) docs)))
    go true is = rows_extended name more docs is
    go false is = rw (log_if_none name docs is) (rows_put (record { name = name; log = more }) docs)
