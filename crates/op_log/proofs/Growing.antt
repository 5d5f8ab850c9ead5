-- The index of a log grows with it.
use Rattle.std.proofs.Common.{◌≡◌, ℕ, ◌+◌, ◌<◌, ◌≤◌, ◌⊎◌, inl, inr, List, [], ◌∷◌, ◌++◌, length, get_or, Bool, true, false, bytes_eq, Option, Some, None, if◌then◌else◌, refl, sym, ap, subst, ◌∙◌, arith}
use Rattle.std.specs.Prelude.{MatchOption, IfSome}
use Rattle.std.specs.List.{slice_get}
use Rattle.std.proofs.lemmas.Bool.{both_ways}
use Rattle.std.proofs.lemmas.List.{length-append}
use Rattle.std.proofs.lemmas.Option.{slice_get_within, slice_get_read}
use lib.Pointwise.{bytes_decides}
use Rattle.lamport_id.specs.Order.{name_cmp}
use Rattle.list_laws.specs.Sorted.{KeysRise, get_by}
use Rattle.doc_api.specs.Words.{Op, Id}
use Rattle.crdt_rules.specs.Fits.{Fits}
use Rattle.crdt_rules.specs.Log.{IsGood}
use Rattle.doc_rules.specs.Replica.{find_id}
use Rattle.crdt_rules.proofs.Logs.{good_push}
use Rattle.crdt_rules.proofs.Tests.{some_same, some≢none}
use Rattle.op_log.specs.Front.{PutsEntry}
use Rattle.op_log.specs.Index.{HasOpAt, IsLink, AreLinks, IsLast, AreLasts, IsFirstFrom, IsIndex, IsIndexed}
use Rattle.op_log.specs.declared.index.Index.{Index}
use Rattle.op_log.specs.declared.index.Link.{Link}
use Rattle.op_log.proofs.Ids.{find_id-none}
use Rattle.op_log.proofs.Indexes.{slice_get-push_old, slice_get-push_new, slice_get-push_cases, stands-within, placed, first_here}
use Rattle.op_log.proofs.LastCounters.{IsFrontOf-push}

module _ (log : List Op) (op : Op) where
  stands-old : {name : List ℕ} {k : ℕ} → HasOpAt log name k → HasOpAt (log ++ op ∷ []) name k
  stands-old {k = k} at = record { op = at.op; there = slice_get-push_old log op k at.there; made = at.made }

  stands-new : HasOpAt (log ++ op ∷ []) op.id.replica (length log)
  stands-new = record { op = op; there = slice_get-push_new log op; made = refl }

  stands-cases : {name : List ℕ} {k : ℕ} → HasOpAt (log ++ op ∷ []) name k → HasOpAt log name k ⊎ ((k ≡ length log) × (op.id.replica ≡ name))
  stands-cases {k = k} at =
      elim (slice_get-push_cases log op k at.there) [
        | inl old ↦ inl (record { op = at.op; there = old; made = at.made })
        | inr new ↦ inr (new.0, ap (λ (o : Op). o.id.replica) new.1 ∙ at.made)
      ]

  -- before an old place stand old operations alone
  stands-before : {name : List ℕ} {j k : ℕ} → HasOpAt (log ++ op ∷ []) name j → j < k → k ≤ length log → HasOpAt log name j
  stands-before {name = name} {j = j} {k = k} at below within = by (stands-cases at)
    where
      by : HasOpAt log name j ⊎ ((j ≡ length log) × (op.id.replica ≡ name)) → HasOpAt log name j
      by (inl old) = old
      by (inr new) = let end : j ≡ length log = new.0 in absurd (omega arith)

  link-old : {name : List ℕ} {k : ℕ} {link : Link} → k < length log → IsLink log name k link → IsLink (log ++ op ∷ []) name k link
  link-old within is = record {
    before = stands-old is.before;
    far = stands-old is.far;
    next = λ j at below. is.next j (stands-before at below (omega arith)) below;
  }

-- the link of one more operation
record IsNextLink (log : List Op) (name : List ℕ) (last : Option ℕ) (link : Link) : Type 0 where
  before : MatchOption last (link.before ≡ length log) (λ k. link.before ≡ k)
  far : MatchOption last (link.far ≡ length log) (λ k. (name : List ℕ) → HasOpAt log name k → HasOpAt log name link.far)

module _ (log : List Op) (op : Op) (lasts : List (List ℕ × ℕ)) (are : AreLasts log lasts) where
  link-new : (last : Option ℕ) → last ≡ get_by bytes_eq lasts op.id.replica → (link : Link) → IsNextLink log op.id.replica last link
      → IsLink (log ++ op ∷ []) op.id.replica (length log) link
  link-new None none link is = record {
    before = subst (HasOpAt (log ++ op ∷ []) op.id.replica) (sym is.before) (stands-new log op);
    far = subst (HasOpAt (log ++ op ∷ []) op.id.replica) (sym is.far) (stands-new log op);
    next = λ j at below. absurd (are.none op.id.replica (sym none) j (stands-before log op at below (omega arith)));
  }
  link-new (Some k) some link is =
      let here = are.each op.id.replica k (sym some) in
      let within : k < length log = stands-within here.here in
      let before : link.before ≡ k = is.before in
      record {
        before = subst (HasOpAt (log ++ op ∷ []) op.id.replica) (sym before) (stands-old log op here.here);
        far = stands-old log op (is.far op.id.replica here.here);
        next = λ j at below.
            let last : j ≤ k = here.last j (stands-before log op at below (omega arith)) in
            (omega arith, omega arith);
      }

AreLinks-push : {log : List Op} {links : List Link} → AreLinks log links → (op : Op) (link : Link) → IsLink (log ++ op ∷ []) op.id.replica (length log) link
    → AreLinks (log ++ op ∷ []) (links ++ link ∷ [])
AreLinks-push {log} {links} are op link is = record {
  as_many = length-append links (link ∷ []) ∙ ap (λ n. n + 1) are.as_many ∙ sym (length-append log (op ∷ []));
  right = λ name k l at read.
      elim (slice_get-push_cases links link k read) [
        | inl old ↦
            let within : k < length log = omega (arith, slice_get_within links k l old, are.as_many) in
            link-old log op within (are.right name k l (stands-before log op at within (omega arith)) old)
        | inr new ↦
            let end : k ≡ length log = new.0 ∙ are.as_many in
            subst (λ (x : Link). IsLink (log ++ op ∷ []) name k x) new.1
            (subst (λ (n : ℕ). IsLink (log ++ op ∷ []) name n link) (sym end)
            (subst (λ (m : List ℕ). IsLink (log ++ op ∷ []) m (length log) link) (made name k at end) is))
      ];
}
  where
    made : (name : List ℕ) (k : ℕ) → HasOpAt (log ++ op ∷ []) name k → k ≡ length log → op.id.replica ≡ name
    made name k at end = by (stands-cases log op at)
      where
        by : HasOpAt log name k ⊎ ((k ≡ length log) × (op.id.replica ≡ name)) → op.id.replica ≡ name
        by (inl old) = let within : k < length log = stands-within old in absurd (omega arith)
        by (inr new) = new.1

AreLasts-push : {log : List Op} {lasts : List (List ℕ × ℕ)} → AreLasts log lasts → (op : Op) (lasts' : List (List ℕ × ℕ)) → KeysRise name_cmp lasts'
    → PutsEntry lasts lasts' op.id.replica (length log) → AreLasts (log ++ op ∷ []) lasts'
AreLasts-push {log} {lasts} are op lasts' rising puts = record {
  rising = rising;
  each = λ name k is. each name k (bytes_eq op.id.replica name) refl (sym (puts name) ∙ is);
  none = λ name is j at. none name (bytes_eq op.id.replica name) refl (sym (puts name) ∙ is) j (stands-cases log op at);
}
  where
    each : (name : List ℕ) (k : ℕ) (b : Bool) → bytes_eq op.id.replica name ≡ b → (if b then Some (length log) else get_by bytes_eq lasts name) ≡ Some k
        → IsLast (log ++ op ∷ []) name k
    each name k true same is =
        let end : length log ≡ k = some_same is in
        record {
          here = subst (λ (n : ℕ). HasOpAt (log ++ op ∷ []) name n) end
              (subst (λ (m : List ℕ). HasOpAt (log ++ op ∷ []) m (length log)) ((bytes_decides op.id.replica name).0 same) (stands-new log op));
          last = λ j at. let within : j < length (log ++ op ∷ []) = stands-within at in omega (arith, length-append log (op ∷ []));
        }
    each name k false other is =
        let old = are.each name k is in
        record {
          here = stands-old log op old.here;
          last = λ j at.
              elim (stands-cases log op at) [
                | inl before ↦ old.last j before
                | inr new ↦ absurd (both_ways (bytes_eq op.id.replica name) other ((bytes_decides op.id.replica name).1 new.1))
              ];
        }

    none : (name : List ℕ) (b : Bool) → bytes_eq op.id.replica name ≡ b → ◌≡◌ {A = Option ℕ} (if b then Some (length log) else get_by bytes_eq lasts name) None
        → (j : ℕ) → HasOpAt log name j ⊎ ((j ≡ length log) × (op.id.replica ≡ name)) → ⊥
    none name true same is j at = some≢none is
    none name false other is j (inl old) = are.none name is j old
    none name false other is j (inr new) = both_ways (bytes_eq op.id.replica name) other ((bytes_decides op.id.replica name).1 new.1)

pub IsIndex-push : {log : List Op} {old new : Index} → IsIndex log old → (op : Op) (last : Option ℕ) (link : Link) → Fits op log → last ≡ get_by bytes_eq old.lasts.items op.id.replica
    → MatchOption last (link.before ≡ length log) (λ k. link.before ≡ k)
    → MatchOption last (link.far ≡ length log) (λ k. (name : List ℕ) → HasOpAt log name k → HasOpAt log name link.far)
    → new.links.items ≡ old.links.items ++ link ∷ [] → KeysRise name_cmp new.lasts.items → PutsEntry old.lasts.items new.lasts.items op.id.replica (length log)
    → IsIndex (log ++ op ∷ []) new
IsIndex-push {log} {old} {new} is op last link fits last_is before far links rising put = record {
  good = good_push log op is.good fits;
  links = subst (AreLinks (log ++ op ∷ [])) (sym links)
      (AreLinks-push is.links op link (link-new log op old.lasts.items is.lasts last last_is link (record { before = before; far = far })));
  lasts = AreLasts-push is.lasts op new.lasts.items rising put;
}

pub IsIndexed-append : {log : List Op} {old new : Index} {front : List (List ℕ × ℕ)} → IsIndexed log old front → (op : Op) (front' : List (List ℕ × ℕ)) → Fits op log
    → IsIndex (log ++ op ∷ []) new → KeysRise name_cmp front' → PutsEntry front front' op.id.replica op.id.counter → IsIndexed (log ++ op ∷ []) new front'
IsIndexed-append {log} {front = front} is op front' fits index rising put = record {
  index = index;
  front = record { rising = rising; last = IsFrontOf-push op log front front' fits is.front put };
}

-- what next_link is asked for
pub last_stands : {log : List Op} {lasts : List (List ℕ × ℕ)} → AreLasts log lasts → (name : List ℕ) (last : Option ℕ) → last ≡ get_by bytes_eq lasts name
    → IfSome last (λ k. (n : List ℕ) × HasOpAt log n k)
last_stands are name None is = tt
last_stands are name (Some k) is = (name, (are.each name k (sym is)).here)

pub last_within : {log : List Op} {lasts : List (List ℕ × ℕ)} → AreLasts log lasts → (name : List ℕ) (last : Option ℕ) → last ≡ get_by bytes_eq lasts name
    → IfSome last (λ k. k < length log)
last_within are name None is = tt
last_within are name (Some k) is = stands-within (are.each name k (sym is)).here

-- the link that is read at a place, and where it leads
module _ {log : List Op} {links : List Link} (are : AreLinks log links) (name : List ℕ) (k : ℕ) (link : Link) (read : link ≡ get_or links k link) (here : HasOpAt log name k) where
  link_at : IsLink log name k link
  link_at =
      let within : k < length links = omega (arith, stands-within here, are.as_many) in
      are.right name k link here (slice_get_read links (length links) k link refl within read)

  pub far_stands : HasOpAt log name link.far
  far_stands = link_at.far

  pub far_within : link.far < length links
  far_within = omega (arith, stands-within far_stands, are.as_many)

  pub before_stands : HasOpAt log name link.before
  before_stands = link_at.before

  -- where it leads to no operation with the counter, that at the place is the first
  pub first_at : IsGood log → (from counter : ℕ) → counter ≤ here.op.id.counter
      → (link.before < k → from ≤ link.before → (op : Op) → slice_get log link.before ≡ Some op → op.id.counter < counter) → IsFirstFrom log name from counter k
  first_at good from counter reaches short = first_here log good name from counter k link link_at here reaches short

pub none_of_replica : {log : List Op} {lasts : List (List ℕ × ℕ)} → AreLasts log lasts → (i : Id) → get_by bytes_eq lasts i.replica ≡ None → find_id log i ≡ None
none_of_replica {log} are i none = find_id-none log i (λ o c e. let at = placed log i c e in are.none i.replica none at.0 at.1)
