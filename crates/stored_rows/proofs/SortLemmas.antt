-- The rows of a sound copy in the order in which they are read.
use Rattle.std.proofs.Common.{◌≡◌, ◌+◌, ◌<◌, ℕ, zero, suc, ℤ, pos, true, false, List, [], ◌∷◌, map, codes, Contains, refl, subst, sym, ap, ◌∙◌, add-one, arith, Less, is_lt, IsPermutation, IsSorted}
use Rattle.std.specs.List.{AllByRecursion}
use Rattle.std.specs.Ordering.{int_cmp, ordering_reverse}
use Rattle.std.proofs.lemmas.Bool.Decides.{nat_tests}
use Rattle.std.proofs.lemmas.Cmp.{tied_itself}
use Rattle.std.proofs.lemmas.List.Sorted.{IsPermutation-sym, IsPermutation-trans}
use Rattle.sqlite.specs.Order.{Row}
use Rattle.sqlite.specs.Tree.{Trees}
use Rattle.sqlite.specs.declared.types.Value.TheVariants.{Text}
use Rattle.std.specs.declared.cmp.Ordering.{Ordering}
use Rattle.sqlite_sql.specs.Query.{key_cmp}
use Rattle.sqlite_value.specs.declared.keys.Key.{Key}
use Rattle.sqlite_value.specs.declared.keys.Collation.TheVariants.{Binary}
use Rattle.sqlite_value.proofs.OrderLemmas.{value_cmp-Int, value_cmp-Text, value_cmp_total}
use Rattle.sqlite_trees.specs.Tree.{IsAscending}
use Rattle.sqlite_keyed.proofs.ListLemmas.{all-append, ascending-append}
use Rattle.sqlite_keyed.proofs.SortLemmas.{sorted_unique}
use Rattle.sqlite_sql.proofs.QueryLemmas.{key_cmp_total}
use Rattle.lamport_id.specs.Order.{name_cmp}
use Rattle.list_laws.proofs.Members.{Contains-here, Contains-there}
use Rattle.stored_rows.specs.Content.{Content, Holds, meta_row, entry_row, rows_from, meta_columns, entry_columns, meta_tree, entry_tree, meta_cmp}
use Rattle.stored_log.specs.Docs.{Doc, AreInOrder, op_text}
use Rattle.stored_rows.specs.Rows.{doc_rows, rows_of}

abbrev pub rising : Key
rising = record { collation = Binary; descending = false }

-- the order of the rows of `entry`: by document, then by place
abbrev pub row_cmp : Row → Row → Ordering
row_cmp = key_cmp 0 (rising ∷ rising ∷ [])

abbrev IsLess : Row → Row → Type 0
IsLess a b = row_cmp a b ≡ Less

int_less : (p q : ℕ) → p < q → int_cmp (pos p) (pos q) ≡ Less
int_less p q h = grind (arith, nat_tests)

place_less : (name : List ℕ) (p q : ℕ) (t u : List ℕ) → p < q → IsLess (entry_row name p t) (entry_row name q u)
place_less name p q t u h = rw (tied_itself value_cmp_total (Text name), value_cmp-Int (pos p) (pos q), int_less p q h) refl

name_less : (a b : List ℕ) (p q : ℕ) (t u : List ℕ) → name_cmp a b ≡ Less → IsLess (entry_row a p t) (entry_row b q u)
name_less a b p q t u h = rw (value_cmp-Text a b, h) refl

-- later places
above_place : (name : List ℕ) (p q : ℕ) (t : List ℕ) (texts : List (List ℕ)) → p < q → AllByRecursion (IsLess (entry_row name p t)) (rows_from name q texts)
above_place name p q t [] h = tt
above_place name p q t (u ∷ texts) h = (place_less name p q t u h, above_place name p (q + 1) t texts (omega arith))

places_rise : (name : List ℕ) (p : ℕ) (texts : List (List ℕ)) → IsAscending IsLess (rows_from name p texts)
places_rise name p [] = tt
places_rise name p (t ∷ texts) = (above_place name p (p + 1) t texts (omega arith), places_rise name (p + 1) texts)

-- later documents
above_name : (a b : List ℕ) (p q : ℕ) (t : List ℕ) (texts : List (List ℕ)) → name_cmp a b ≡ Less → AllByRecursion (IsLess (entry_row a p t)) (rows_from b q texts)
above_name a b p q t [] h = tt
above_name a b p q t (u ∷ texts) h = (name_less a b p q t u h, above_name a b p (q + 1) t texts h)

above_docs : (a : List ℕ) (p : ℕ) (t : List ℕ) (docs : List Doc) → ((y : Doc) → Contains docs y → name_cmp a y.name ≡ Less) → AllByRecursion (IsLess (entry_row a p t)) (rows_of docs)
above_docs a p t [] h = tt
above_docs a p t (d ∷ docs) h =
    all-append (IsLess (entry_row a p t)) (doc_rows d) (rows_of docs) (above_name a d.name p 1 t (map op_text d.log) (h d (Contains-here docs refl)))
    (above_docs a p t docs (λ y c. h y (Contains-there d docs c)))

across : (a : List ℕ) (p : ℕ) (texts : List (List ℕ)) (docs : List Doc) → ((y : Doc) → Contains docs y → name_cmp a y.name ≡ Less) → AllByRecursion (λ x. AllByRecursion (IsLess x) (rows_of docs)) (rows_from a p texts)
across a p [] docs h = tt
across a p (t ∷ texts) docs h = (above_docs a p t docs h, across a (p + 1) texts docs h)

rows_rise : (docs : List Doc) → AreInOrder docs → IsAscending IsLess (rows_of docs)
rows_rise [] h = tt
rows_rise (d ∷ docs) h = ascending-append IsLess (doc_rows d) (rows_of docs) (places_rise d.name 1 (map op_text d.log)) (rows_rise docs h.1) (across d.name 1 (map op_text d.log) docs h.0)

sorted_rows : (rows : List Row) → IsAscending IsLess rows → IsSorted row_cmp rows
sorted_rows [] up k d low high = absurd (omega arith)
sorted_rows (a ∷ []) up k d low high = absurd (omega arith)
sorted_rows (a ∷ b ∷ rows) up zero d low high = ap is_lt ((key_cmp_total (rising ∷ rising ∷ []) 0).antisymm b a ∙ ap ordering_reverse up.0.0)
sorted_rows (a ∷ b ∷ rows) up (suc k) d low high = rw add-one (rw add-one at (sorted_rows (b ∷ rows) up.1 k d (omega arith) (omega arith)))

-- documents with the same rows have them in the same order
pub one_order : (docs others : List Doc) → AreInOrder docs → AreInOrder others → IsPermutation (rows_of docs) (rows_of others) → rows_of docs ≡ rows_of others
one_order docs others in_order also same =
    sym (sorted_unique row_cmp (key_cmp_total (rising ∷ rising ∷ []) 0) (rows_of docs) (rows_of others) (rows_rise docs in_order) same (sorted_rows (rows_of others) (rows_rise others also)))

module _ (what : Content) (trees : Trees) (holds : Holds what trees) where
  -- the entries are read as they stand in the documents
  pub entries_are : (docs : List Doc) (rows : List Row) → AreInOrder docs → what.rows ≡ rows_of docs → IsPermutation (map entry_columns (trees entry_tree)) rows → IsSorted row_cmp rows → rows ≡ rows_of docs
  entries_are docs rows in_order are same sorted =
      let moved = subst (λ z. IsPermutation z rows) are (IsPermutation-trans _ _ _ holds.entry same) in
      sorted_unique row_cmp (key_cmp_total (rising ∷ rising ∷ []) 0) (rows_of docs) rows (rows_rise docs in_order) moved sorted

  -- and the two numbers with the format first
  pub numbers_are : (rows : List Row) → IsPermutation (map meta_columns (trees meta_tree)) rows → IsSorted meta_cmp rows
      → rows ≡ meta_row holds.meta.id (codes "format") what.format ∷ meta_row holds.meta.other_id (codes "epoch") what.epoch ∷ []
  numbers_are rows same sorted =
      let first = meta_row holds.meta.id (codes "format") what.format in
      let second = meta_row holds.meta.other_id (codes "epoch") what.epoch in
      let rises : IsAscending (λ a b. meta_cmp a b ≡ Less) (first ∷ second ∷ []) = ((rw (value_cmp-Text (codes "epoch") (codes "format")) refl, tt), (tt, tt)) in
      sorted_unique meta_cmp (key_cmp_total (record { collation = Binary; descending = true } ∷ []) 1) (first ∷ second ∷ []) rows rises (IsPermutation-trans _ _ _ holds.meta.rows_are same) sorted

-- the same row has the same number
pub one_number : (id other : ℤ) (name : List ℕ) (value at_other : ℕ) {more rest : List Row} → meta_row id name value ∷ more ≡ meta_row other name at_other ∷ rest → value ≡ at_other
one_number id other name value at_other e = cc

second_number : (f e : Row) (id other : ℤ) (name : List ℕ) (value at_other : ℕ) → f ∷ meta_row id name value ∷ [] ≡ e ∷ meta_row other name at_other ∷ [] → value ≡ at_other
second_number f e id other name value at_other same = cc

-- tables have one epoch
pub one_epoch : (what other : Content) (db : Trees) → Holds what db → Holds other db → what.epoch ≡ other.epoch
one_epoch what other db h o =
    let rows : List Row = meta_row o.meta.id (codes "format") other.format ∷ meta_row o.meta.other_id (codes "epoch") other.epoch ∷ [] in
    second_number _ _ h.meta.other_id o.meta.other_id (codes "epoch") what.epoch other.epoch
    (sym (numbers_are what db h rows (IsPermutation-sym _ _ o.meta.rows_are) (falls o.meta.id o.meta.other_id other.format other.epoch)))
  where
    falls : (id other_id : ℤ) (format epoch : ℕ) → IsSorted meta_cmp (meta_row id (codes "format") format ∷ meta_row other_id (codes "epoch") epoch ∷ [])
    falls id other_id format epoch zero d low high = rw (value_cmp-Text (codes "format") (codes "epoch")) refl
    falls id other_id format epoch (suc k) d low high = absurd (omega arith)
