-- What is read where two assignments did not know of each other, computed.
use Rattle.std.proofs.Common.{◌≡◌, ◌⊎◌, inl, inr, ℕ, List, [], ◌∷◌, Some, Ok, refl, sym, ap, subst, ◌∙◌, codes, Contains, Less}
use Rattle.doc_api.specs.Words.{Id, id_cmp, Scalar, Key, Tagged, Assign, Op}
use Rattle.json_scalar.specs.declared.scalar.Scalar.TheVariants.{Text as TextValue}
use Rattle.json_scalar.specs.declared.scalar.Val.TheVariants.{Scalar as ScalarVal}
use Rattle.op_core.specs.declared.cursor.Key.TheVariants.{Doc, Text}
use Rattle.op_core.specs.declared.cursor.Tagged.TheVariants.{Map as MapAt}
use Rattle.list_laws.proofs.Members.{Contains-nil, Contains-here, Contains-there, Contains-cases}
use Rattle.crdt_rules.specs.Effect.{scalar_put}
use Rattle.crdt_rules.specs.Facts.{facts}
use Rattle.crdt_rules.specs.Log.{IsGood, replay}
use Rattle.crdt_rules.proofs.Readings.{here_from}
use Rattle.crdt_rules.proofs.Tests.{some_same, some≢none}
use Rattle.doc_rules.specs.Answers.{Reads}
use Rattle.doc_rules.specs.Views.{AreEntries}
use Rattle.doc_rules.specs.Replica.{Replica}
use Rattle.doc_api.specs.declared.ask.Look.TheVariants.{Values}
use Rattle.doc_api.specs.declared.ask.Query.TheVariants.{Look}
use Rattle.doc_api.specs.declared.place.Step.TheVariants.{Get}
use Rattle.doc_api.specs.declared.reply.Reply.TheVariants as reply
use Rattle.doc_rules.proofs.Causes.{fits_from}
use Rattle.doc_rules.proofs.FromLog.{register_from}

abbrev p : List ℕ
p = codes "p"

abbrev q : List ℕ
q = codes "q"

abbrev id : ℕ → List ℕ → Id
id n name = record { counter = n; replica = name }

abbrev root : List Tagged
root = MapAt Doc ∷ []

abbrev k : Key
k = Text (codes "k")

abbrev text : ℕ → Scalar
text byte = TextValue (byte ∷ [])

abbrev put : Id → List (List ℕ × ℕ) → ℕ → Op
put i front byte = record { id = i; front = front; cursor = record { path = root; key = k }; mutation = Assign (ScalarVal (text byte)) }

-- A, and then B and C, each of which knows of A alone
abbrev a : Op
a = put (id 1 p) [] 65

abbrev b : Op
b = put (id 2 p) ((p, 1) ∷ []) 66

abbrev c : Op
c = put (id 2 q) ((p, 1) ∷ []) 67

abbrev log : List Op
log = a ∷ b ∷ c ∷ []

good : IsGood log
good = (fits_from a [] refl refl, (fits_from b (a ∷ []) refl refl, (fits_from c (a ∷ b ∷ []) refl refl, tt)))

abbrev entries : List (Id × Scalar)
entries = (id 2 p, text 66) ∷ (id 2 q, text 67) ∷ []

abbrev IsEntry : Id × Scalar → Type 0
IsEntry x = (facts (replay log)).register root k x.0 ≡ Some x.1

-- an entry is what one of the three put, and A's is replaced
is_among : (x : Id × Scalar) → IsEntry x → Contains entries x
is_among x h = let r = register_from log root k x.0 x.1 good h in by r.0 (Contains-cases a (b ∷ c ∷ []) r.1.logged) ((here_from r.0 root k x.0 r.1.here).id) r.2
  where
    same : (o : Op) (s : Scalar) → o.id ≡ x.0 → scalar_put o.mutation ≡ Some s → scalar_put o.mutation ≡ Some x.1 → ◌≡◌ {A = Id × Scalar} (o.id, s) x
    same o s i is h = λ j. (i j, some_same (sym is ∙ h) j)

    last : (o : Op) → (b ≡ o) ⊎ Contains (c ∷ []) o → o.id ≡ x.0 → scalar_put o.mutation ≡ Some x.1 → Contains entries x
    last o (inl is) i h = Contains-here ((id 2 q, text 67) ∷ []) (same b (text 66) (ap (λ (z : Op). z.id) is ∙ i) refl (ap (λ (z : Op). scalar_put z.mutation) is ∙ h))
    last o (inr behind) i h =
        elim (Contains-cases c [] behind) [
          | inl is ↦ Contains-there (id 2 p, text 66) ((id 2 q, text 67) ∷ []) (Contains-here [] (same c (text 67) (ap (λ (z : Op). z.id) is ∙ i) refl (ap (λ (z : Op). scalar_put z.mutation) is ∙ h)))
          | inr none ↦ absurd (Contains-nil none)
        ]

    by : (o : Op) → (a ≡ o) ⊎ Contains (b ∷ c ∷ []) o → o.id ≡ x.0 → scalar_put o.mutation ≡ Some x.1 → Contains entries x
    by o (inl is) i puts =
        absurd (some≢none (sym h ∙ ap (λ (j : Id). (facts (replay log)).register root k j) (sym i ∙ ap (λ (z : Op). z.id) (sym is))))
    by o (inr behind) i puts = last o (Contains-cases b (c ∷ []) behind) i puts

are_entries : AreEntries (facts (replay log)) root k entries
are_entries = record {
  rising = (
    (λ y h. elim (Contains-cases (id 2 q, text 67) [] h) [ inl is ↦ subst (λ (z : Id × Scalar). id_cmp (id 2 p) z.0 ≡ Less) is refl | inr none ↦ absurd (Contains-nil none) ]),
    ((λ y h. absurd (Contains-nil h)), tt),
  );
  each = λ x h. elim (Contains-cases (id 2 p, text 66) ((id 2 q, text 67) ∷ []) h) [
    | inl is ↦ subst IsEntry is refl
    | inr behind ↦ elim (Contains-cases (id 2 q, text 67) [] behind) [ inl is ↦ subst IsEntry is refl | inr none ↦ absurd (Contains-nil none) ]
  ];
  all = is_among;
}

abbrev three : Replica
three = record { name = codes "srv-1"; log = log; held = [] }

both_stay : Reads three (record { mine = 0; copied = 0 }) (Look Values (record { start = record { path = []; key = Doc }; steps = Get (codes "k") ∷ [] })) (reply.Values (text 66 ∷ text 67 ∷ []))
both_stay = (Ok (record { path = root; key = k }), (Ok (record { path = root; key = k }), refl, refl), (Ok (text 66 ∷ text 67 ∷ []), (refl, (entries, are_entries, refl)), refl))
