-- Rows that a batch adds.
use Rattle.std.proofs.Common.{◌≡◌, ◌≢◌, ◌≤◌, ◌+◌, ◌-◌, ℕ, List, [], ◌∷◌, ◌++◌, length, Bool, true, false, cond, IsUtf8, sym, subst, arith}
use Rattle.std.specs.List.{AllByRecursion, list_any}
use Rattle.std.specs.Ordering.{is_lt}
use Rattle.std.specs.List.Sorted.{IsPermutation}
use Rattle.std.proofs.lemmas.List.Sorted.{IsPermutation-trans, IsPermutation-append_left}
use Rattle.sqlite.specs.Order.{Row}
use Rattle.sqlite_keyed.proofs.ListLemmas.{all-append}
use Rattle.lamport_id.specs.Name.{is_name}
use Rattle.doc_api.specs.Words.{name_cmp}
use Rattle.op_core.specs.Op.{Op}
use Rattle.crdt_rules.specs.Effect.{is_add}
use Rattle.crdt_rules.specs.Log.{IsGood}
use Rattle.stored_rows.specs.Content.{entry_row}
use Rattle.stored_log.specs.Docs.{Doc, op_text, is_named, log_of, longer_by, extend, put_doc, add_log}
use Rattle.stored_rows.specs.Rows.{rows_of}
use Rattle.stored_rows.specs.Accepted.{IsWritable, AreWritable}
use Rattle.stored_rows.specs.Parsed.{HasRows}
use Rattle.stored_log.proofs.DocLemmas.{still_in_order, still_good}
use Rattle.stored_rows.proofs.RowLemmas.{rows_added}

-- ---- what may be written

module _ (format : ℕ) (name : List ℕ) (more : List Op) (new : AllByRecursion (IsWritable format) more) where
  writable_extended : (docs : List Doc) → AreWritable format docs → AreWritable format (extend name more docs)
  writable_extended [] h = tt
  writable_extended (x ∷ docs) h = go (is_named name x) (writable_extended docs h.1)
    where
      go : (b : Bool) → AreWritable format (extend name more docs) → AreWritable format (cond b (longer_by more x ∷ docs) (x ∷ extend name more docs))
      go true later = (all-append (IsWritable format) x.log more h.0 new, h.1)
      go false later = (h.0, later)

  writable_put : (docs : List Doc) → AreWritable format docs → AreWritable format (put_doc (record { name = name; log = more }) docs)
  writable_put [] h = (new, tt)
  writable_put (x ∷ docs) h = go (is_lt (name_cmp name x.name)) (writable_put docs h.1)
    where
      go : (b : Bool) → AreWritable format (put_doc (record { name = name; log = more }) docs)
          → AreWritable format (cond b (record { name = name; log = more } ∷ x ∷ docs) (x ∷ put_doc (record { name = name; log = more }) docs))
      go true later = (new, h)
      go false later = (h.0, later)

  -- what was writable stays so
  pub still_writable : (docs : List Doc) → AreWritable format docs → AreWritable format (add_log name more docs)
  still_writable docs h = go (list_any (λ e. is_named name e) docs)
    where
      go : (b : Bool) → AreWritable format (cond b (extend name more docs) (put_doc (record { name = name; log = more }) docs))
      go true = writable_extended docs h
      go false = writable_put docs h

-- its text is UTF-8, and the new format has additions
pub writable_text : (op : Op) (text : List ℕ) → op_text op ≡ text → IsUtf8 text → IsWritable 2 op
writable_text op text is utf8 = (subst IsUtf8 (sym is) utf8, λ e. absurd (omega arith))

-- ---- one row

one_more : (op : Op) → op ∷ [] ≢ []
one_more op e = absurd cc

-- the row that was read comes next in its document
pub adds_one : (format : ℕ) (name : List ℕ) (place : ℕ) (text : List ℕ) (op : Op) (docs new : List Doc) (rows : List Row) → (format ≡ 1 → is_add op.mutation ≡ false) → 1 ≤ place → is_name name ≡ true → place - 1 ≡ length (log_of name docs) → op_text op ≡ text → IsUtf8 text
    → IsGood (log_of name docs ++ op ∷ []) → new ≡ add_log name (op ∷ []) docs → HasRows format rows docs → HasRows format (rows ++ entry_row name place text ∷ []) new
adds_one format name place text op docs new rows in_format first named counted text_is utf8 good is held =
    let at : length (log_of name docs) + 1 ≡ place = omega arith in
    let row = λ (p : ℕ). rows_of docs ++ entry_row name p (op_text op) ∷ [] in
    let moved = subst (λ p. IsPermutation (row p) (rows_of (add_log name (op ∷ []) docs))) at (rows_added name (op ∷ []) docs) in
    let told = subst (λ t. IsPermutation (rows_of docs ++ entry_row name place t ∷ []) (rows_of (add_log name (op ∷ []) docs))) text_is moved in
    rw is (record {
      in_order = still_in_order name (op ∷ []) docs held.in_order;
      good = still_good name (op ∷ []) docs named (one_more op) held.good good;
      writable = still_writable 2 name (op ∷ []) (writable_text op text text_is utf8, tt) docs held.writable;
      in_format = still_writable format name (op ∷ []) ((subst IsUtf8 (sym text_is) utf8, in_format), tt) docs held.in_format;
      rows_are = IsPermutation-trans _ _ _ (IsPermutation-append_left (entry_row name place text ∷ []) rows (rows_of docs) held.rows_are) told;
    })
