-- In a good log the insertion of a cursor's last element names those before it.
use Rattle.std.proofs.Common.{◌≡◌, ℕ, List, [], ◌∷◌, ◌++◌, Bool, true, false, ◌&&◌, Contains, refl, sym, ap, subst, ◌∙◌, append_assoc, append-nil}
use Rattle.std.specs.List.{list_all}
use Rattle.std.proofs.lemmas.Bool.{and_parts, and_from}
use Rattle.doc_api.specs.Words.{Id, Op, Key, Tagged}
use Rattle.op_core.specs.declared.cursor.Key.TheVariants.{Doc, Text, Element, Head}
use Rattle.version_vector.specs.Front.{covers}
use Rattle.op_core.specs.Shape.{key_of}
use Rattle.crdt_rules.specs.Fits.{is_element, knows_cursor, knows_key}
use Rattle.crdt_rules.specs.Log.{IsGood}
use Rattle.crdt_rules.proofs.Logs.{fits_inside}
use Rattle.crdt_rules.proofs.Readings.{element_from, element_at}
use Rattle.crdt_rules.proofs.SameLaws.{bool_ext}
use Rattle.op_log.specs.Elements.{covers_key, covers_cursor, inserts_key, inserts_cursor}

module _ (front : List (List ℕ × ℕ)) (log : List Op) where
  key_known : (p : List Tagged) (k : Key) → knows_key front log p k ≡ (covers_key front k && inserts_key log p k)
  key_known p Doc = refl
  key_known p (Text text) = refl
  key_known p (Element i) = refl
  key_known p Head = refl

  -- a cursor is known if the front covers its elements and the log inserts them
  pub cursor_known : (p path : List Tagged) (k : Key)
      → knows_cursor front log p path k ≡ (covers_cursor front path k && inserts_cursor log p path k)
  cursor_known p [] k = key_known p k
  cursor_known p (t ∷ path) k =
      (λ i. key_known p (key_of t) i && cursor_known (p ++ t ∷ []) path k i)
      ∙ mixed (covers_key front (key_of t)) (inserts_key log p (key_of t)) (list_all (λ s. covers_key front (key_of s)) path) (covers_key front k) (inserts_cursor log (p ++ t ∷ []) path k)
    where
      mixed : (a b c d e : Bool) → ((a && b) && ((c && d) && e)) ≡ (((a && c) && d) && (b && e))
      mixed false b c d e = refl
      mixed true true c d e = refl
      mixed true false false d e = refl
      mixed true false true false e = refl
      mixed true false true true e = refl

-- what is no element at the end needs no insertion
pub inserts_last : (log : List Op) (p path : List Tagged) (t : Tagged) (k : Key) → ((q : List Tagged) → inserts_key log q k ≡ true)
    → inserts_cursor log p (path ++ t ∷ []) k ≡ inserts_cursor log p path (key_of t)
inserts_last log p [] t k none = ap (λ b. inserts_key log p (key_of t) && b) (none (p ++ t ∷ [])) ∙ and_true (inserts_key log p (key_of t))
  where
    and_true : (b : Bool) → (b && true) ≡ b
    and_true true = refl
    and_true false = refl
inserts_last log p (s ∷ path) t k none = ap (λ b. inserts_key log p (key_of s) && b) (inserts_last log (p ++ s ∷ []) path t k none)

module _ (log before : List Op) (within : (o : Op) → Contains before o → Contains log o) where
  key_inserted : (front : List (List ℕ × ℕ)) (p : List Tagged) (k : Key) → knows_key front before p k ≡ true → inserts_key log p k ≡ true
  key_inserted front p Doc h = refl
  key_inserted front p (Text text) h = refl
  key_inserted front p Head h = refl
  key_inserted front p (Element i) h =
      let r = element_from before p i (and_parts (covers front i) (is_element before p i) h).1 in
      element_at log p i r.0 (within r.0 r.1) r.2

  -- where an operation's cursor is known, the elements of its path are inserted
  inserted_along : (front : List (List ℕ × ℕ)) (p path : List Tagged) (k : Key) (i : Id)
      → knows_cursor front before p path k ≡ true → is_element log (p ++ path) i ≡ true → inserts_cursor log p path (Element i) ≡ true
  inserted_along front p [] k i known last = subst (λ q. is_element log q i ≡ true) (append-nil p) last
  inserted_along front p (t ∷ path) k i known last =
      let parts = and_parts (knows_key front before p (key_of t)) (knows_cursor front before (p ++ t ∷ []) path k) known in
      and_from (inserts_key log p (key_of t)) (inserts_cursor log (p ++ t ∷ []) path (Element i))
      (key_inserted front p (key_of t) parts.0)
      (inserted_along front (p ++ t ∷ []) path k i parts.1 (subst (λ q. is_element log q i ≡ true) (sym (append_assoc p (t ∷ []) path)) last))

last_inserted : (log : List Op) (p path : List Tagged) (i : Id) → inserts_cursor log p path (Element i) ≡ true → is_element log (p ++ path) i ≡ true
last_inserted log p [] i h = subst (λ q. is_element log q i ≡ true) (sym (append-nil p)) h
last_inserted log p (t ∷ path) i h =
    subst (λ q. is_element log q i ≡ true) (append_assoc p (t ∷ []) path)
    (last_inserted log (p ++ t ∷ []) path i (and_parts (inserts_key log p (key_of t)) (inserts_cursor log (p ++ t ∷ []) path (Element i)) h).1)

-- the elements of a cursor are inserted if the one at its end is
pub last_decides : (log : List Op) (path : List Tagged) (i : Id) → IsGood log → is_element log path i ≡ inserts_cursor log [] path (Element i)
last_decides log path i good = bool_ext (is_element log path i) (inserts_cursor log [] path (Element i)) all (last_inserted log [] path i)
  where
    all : is_element log path i ≡ true → inserts_cursor log [] path (Element i) ≡ true
    all h =
        let r = element_from log path i h in
        let inside = fits_inside log good r.1 in
        inserted_along log inside.before inside.within (r.0).front [] path (r.0).cursor.key i
        (subst (λ q. knows_cursor (r.0).front inside.before [] q (r.0).cursor.key ≡ true) r.2.path inside.fits.cursor) h

pub no_element : (log : List Op) (k : Key) → ((i : Id) → ¬ (k ≡ Element i)) → (q : List Tagged) → inserts_key log q k ≡ true
no_element log Doc other q = refl
no_element log (Text text) other q = refl
no_element log (Element i) other q = absurd (other i refl)
no_element log Head other q = refl
