-- Rows are those of one list of good documents.
use Rattle.std.proofs.Common.{◌≡◌, ◌≢◌, ◌+◌, ℕ, List, [], ◌∷◌, ◌++◌, map, Contains, refl, sym, ap, ap₂, subst, ◌∙◌, Less}
use Rattle.std.specs.Prelude.{⊤}
use Rattle.std.specs.List.Sorted.{IsPermutation}
use Rattle.sqlite.specs.Order.{Row}
use Rattle.doc_api.specs.Words.{name_cmp, Op}
use Rattle.list_laws.proofs.IdOrder.{irreflexive}
use Rattle.list_laws.proofs.Members.{Contains-here}
use Rattle.crdt_rules.specs.Log.{IsGoodAfter}
use Rattle.doc_rules.proofs.OneAnswer.{name_order}
use Rattle.stored_log.specs.Docs.{Doc, AreInOrder, AreGood, op_text}
use Rattle.stored_log.proofs.Texts.{one_operation}
use Rattle.stored_rows.specs.Content.{entry_row, rows_from}
use Rattle.stored_rows.specs.Rows.{rows_of}
use Rattle.stored_rows.proofs.SortLemmas.{one_order}

-- texts of entries that fit are those of no other entries
same_ops : (before earlier ops others : List Op) → IsGoodAfter before ops → IsGoodAfter earlier others → map op_text ops ≡ map op_text others → ops ≡ others
same_ops before earlier [] [] good also same = refl
same_ops before earlier [] (o ∷ others) good also same = absurd (let none : ◌≡◌ {A = List (List ℕ)} [] (op_text o ∷ map op_text others) = same in cc)
same_ops before earlier (op ∷ ops) [] good also same = absurd (let none : ◌≡◌ {A = List (List ℕ)} (op_text op ∷ map op_text ops) [] = same in cc)
same_ops before earlier (op ∷ ops) (o ∷ others) good also same =
    let whole : op_text op ∷ map op_text ops ≡ op_text o ∷ map op_text others = same in
    let first : op_text op ≡ op_text o = cc in
    let later : map op_text ops ≡ map op_text others = cc in
    ap₂ ◌∷◌ (one_operation op o good.0.shape also.0.shape first) (same_ops (before ++ op ∷ []) (earlier ++ o ∷ []) ops others good.1 also.1 later)

-- the first row is of another document, if there is one
abbrev IsOfOthers : List ℕ → List Row → Type 0
IsOfOthers name [] = ⊤
IsOfOthers name (row ∷ rows) = (place : ℕ) (text : List ℕ) → row ≢ entry_row name place text

first_row : (a b : Row) (rows more : List Row) → a ∷ rows ≡ b ∷ more → a ≡ b
first_row a b rows more same = cc

-- the rows of a document end where those of another begin
cut : (name : List ℕ) (place : ℕ) (texts others : List (List ℕ)) (rest more : List Row) → IsOfOthers name rest → IsOfOthers name more
    → rows_from name place texts ++ rest ≡ rows_from name place others ++ more → (texts ≡ others) × (rest ≡ more)
cut name place [] [] rest more a b same = (refl, same)
cut name place [] (u ∷ others) [] more a b same = absurd (let none : ◌≡◌ {A = List Row} [] (entry_row name place u ∷ rows_from name (place + 1) others ++ more) = same in cc)
cut name place [] (u ∷ others) (r ∷ rest) more a b same = absurd (a place u (first_row r (entry_row name place u) rest (rows_from name (place + 1) others ++ more) same))
cut name place (t ∷ texts) [] rest [] a b same = absurd (let none : ◌≡◌ {A = List Row} (entry_row name place t ∷ rows_from name (place + 1) texts ++ rest) [] = same in cc)
cut name place (t ∷ texts) [] rest (r ∷ more) a b same = absurd (b place t (first_row r (entry_row name place t) more (rows_from name (place + 1) texts ++ rest) (sym same)))
cut name place (t ∷ texts) (u ∷ others) rest more a b same =
    let whole : entry_row name place t ∷ (rows_from name (place + 1) texts ++ rest) ≡ entry_row name place u ∷ (rows_from name (place + 1) others ++ more) = same in
    let first : t ≡ u = cc in
    let later : rows_from name (place + 1) texts ++ rest ≡ rows_from name (place + 1) others ++ more = cc in
    let both = cut name (place + 1) texts others rest more a b later in
    (ap₂ ◌∷◌ first both.0, both.1)

one_name : (name other : List ℕ) (place at : ℕ) (text words : List ℕ) → entry_row name place text ≡ entry_row other at words → name ≡ other
one_name name other place at text words same = cc

-- later documents are others
are_others : (name : List ℕ) (docs : List Doc) → AreGood docs → ((d : Doc) → Contains docs d → name_cmp name d.name ≡ Less) → IsOfOthers name (rows_of docs)
are_others name [] good above = tt
are_others name (d ∷ docs) good above = go d.log good.0.some
  where
    go : (log : List Op) → log ≢ [] → IsOfOthers name (rows_from d.name 1 (map op_text log) ++ rows_of docs)
    go [] some = absurd (some refl)
    go (op ∷ ops) some = λ place text same.
        irreflexive name_order {x = name} (subst (λ n. name_cmp name n ≡ Less) (one_name d.name name 1 place (op_text op) text same) (above d (Contains-here docs refl)))

some_rows : (name : List ℕ) (log : List Op) (rest : List Row) → log ≢ [] → rows_from name 1 (map op_text log) ++ rest ≢ []
some_rows name [] rest some = λ same. absurd (some refl)
some_rows name (op ∷ ops) rest some = λ same. let none : ◌≡◌ {A = List Row} (entry_row name 1 (op_text op) ∷ rows_from name (1 + 1) (map op_text ops) ++ rest) [] = same in cc

-- rows that begin alike begin with the same document
first_name : (name other : List ℕ) (log ops : List Op) (rest more : List Row) → log ≢ [] → ops ≢ []
    → rows_from name 1 (map op_text log) ++ rest ≡ rows_from other 1 (map op_text ops) ++ more → name ≡ other
first_name name other [] ops rest more some also same = absurd (some refl)
first_name name other (x ∷ log) [] rest more some also same = absurd (also refl)
first_name name other (x ∷ log) (y ∷ ops) rest more some also same =
    one_name name other 1 1 (op_text x) (op_text y)
    (first_row (entry_row name 1 (op_text x)) (entry_row other 1 (op_text y)) (rows_from name (1 + 1) (map op_text log) ++ rest) (rows_from other (1 + 1) (map op_text ops) ++ more) same)

abbrev named : List ℕ → List Op → Doc
named name log = record { name = name; log = log }

same_rows : (docs others : List Doc) → AreInOrder docs → AreGood docs → AreInOrder others → AreGood others → rows_of docs ≡ rows_of others → docs ≡ others
same_rows [] [] order good also fine same = refl
same_rows [] (e ∷ others) order good also fine same = absurd (some_rows e.name e.log (rows_of others) fine.0.some (sym same))
same_rows (d ∷ docs) [] order good also fine same = absurd (some_rows d.name d.log (rows_of docs) good.0.some same)
same_rows (d ∷ docs) (e ∷ others) order good also fine same =
    let names : d.name ≡ e.name = first_name d.name e.name d.log e.log (rows_of docs) (rows_of others) good.0.some fine.0.some same in
    let moved = same ∙ ap (λ n. rows_from n 1 (map op_text e.log) ++ rows_of others) (sym names) in
    let both = cut d.name 1 (map op_text d.log) (map op_text e.log) (rows_of docs) (rows_of others) (are_others d.name docs good.1 order.0)
    (subst (λ n. IsOfOthers n (rows_of others)) (sym names) (are_others e.name others fine.1 also.0)) moved in
    let whole : d ≡ e = ap₂ named names (same_ops [] [] d.log e.log good.0.good fine.0.good both.0) in
    ap₂ ◌∷◌ whole (same_rows docs others order.1 good.1 also.1 fine.1 both.1)

-- good documents with the same rows, in any order, are the same
pub one_log : (docs others : List Doc) → AreInOrder docs → AreGood docs → AreInOrder others → AreGood others → IsPermutation (rows_of docs) (rows_of others) → docs ≡ others
one_log docs others order good also fine same = same_rows docs others order good also fine (one_order docs others order also same)
