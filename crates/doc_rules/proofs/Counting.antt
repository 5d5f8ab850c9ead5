-- The sum of a counter to which two replicas added, and what an assignment that knows of one of them leaves
-- of it, computed.
use Rattle.std.proofs.Common.{◌≡◌, ◌⊎◌, inl, inr, ℕ, ℤ, pos, negsuc, List, [], ◌∷◌, Some, Ok, refl, sym, ap, subst, ◌∙◌, codes, Contains, Less}
use Rattle.doc_api.specs.Words.{Id, id_cmp, Key, Tagged, Mutation, Assign, Add, Op}
use Rattle.json_scalar.specs.declared.scalar.Scalar.TheVariants.{Text as TextValue}
use Rattle.json_scalar.specs.declared.scalar.Val.TheVariants.{Scalar as ScalarVal}
use Rattle.op_core.specs.declared.cursor.Key.TheVariants.{Doc, Text}
use Rattle.op_core.specs.declared.cursor.Tagged.TheVariants.{Map as MapAt}
use Rattle.doc_api.specs.declared.ask.Look.TheVariants.{Sum}
use Rattle.doc_api.specs.declared.ask.Query.TheVariants.{Look}
use Rattle.doc_api.specs.declared.place.Step.TheVariants.{Get}
use Rattle.doc_api.specs.declared.reply.Reply.TheVariants as reply
use Rattle.list_laws.proofs.Members.{Contains-nil, Contains-here, Contains-there, Contains-cases}
use Rattle.crdt_rules.specs.Effect.{number_added}
use Rattle.crdt_rules.specs.Facts.{facts}
use Rattle.crdt_rules.specs.Log.{IsGood, replay}
use Rattle.crdt_rules.proofs.Readings.{here_from}
use Rattle.crdt_rules.proofs.Tests.{some_same, some≢none}
use Rattle.doc_rules.specs.Answers.{Reads}
use Rattle.doc_rules.specs.Views.{AreTerms}
use Rattle.doc_rules.specs.Replica.{Replica}
use Rattle.doc_rules.proofs.Causes.{fits_from}
use Rattle.doc_rules.proofs.FromLog.{counter_from}

abbrev p : List ℕ
p = codes "p"

abbrev q : List ℕ
q = codes "q"

abbrev id : ℕ → List ℕ → Id
id n name = record { counter = n; replica = name }

abbrev root : List Tagged
root = MapAt Doc ∷ []

abbrev k : Key
k = Text (codes "n")

abbrev does : Id → List (List ℕ × ℕ) → Mutation → Op
does i front m = record { id = i; front = front; cursor = record { path = root; key = k }; mutation = m }

-- 5 and -7 are added, and then a text is assigned by one who knows of the 5 alone
abbrev five : Op
five = does (id 1 p) [] (Add (pos 5))

abbrev minus_seven : Op
minus_seven = does (id 1 q) [] (Add (negsuc 6))

abbrev assigned : Op
assigned = does (id 2 p) ((p, 1) ∷ []) (Assign (ScalarVal (TextValue (codes "x"))))

abbrev both : List Op
both = five ∷ minus_seven ∷ []

both_good : IsGood both
both_good = (fits_from five [] refl refl, (fits_from minus_seven (five ∷ []) refl refl, tt))

abbrev log : List Op
log = five ∷ minus_seven ∷ assigned ∷ []

good : IsGood log
good = (fits_from five [] refl refl, (fits_from minus_seven (five ∷ []) refl refl, (fits_from assigned both refl refl, tt)))

abbrev at_server : List Op → Replica
at_server ops = record { name = codes "srv-1"; log = ops; held = [] }

abbrev IsTerm : List Op → Id × ℤ → Type 0
IsTerm ops x = (facts (replay ops)).counter root k x.0 ≡ Some x.1

same_term : (o : Op) {x : Id × ℤ} {n : ℤ} → o.id ≡ x.0 → number_added o.mutation ≡ Some n → number_added o.mutation ≡ Some x.1 → ◌≡◌ {A = Id × ℤ} (o.id, n) x
same_term o i is h = λ j. (i j, some_same (sym is ∙ h) j)

-- ---- both terms

abbrev terms : List (Id × ℤ)
terms = (id 1 p, pos 5) ∷ (id 1 q, negsuc 6) ∷ []

among : (x : Id × ℤ) → IsTerm both x → Contains terms x
among x h = let r = counter_from both root k x.0 x.1 both_good h in by r.0 (Contains-cases five (minus_seven ∷ []) r.1.logged) ((here_from r.0 root k x.0 r.1.here).id) r.2
  where
    by : (o : Op) → (five ≡ o) ⊎ Contains (minus_seven ∷ []) o → o.id ≡ x.0 → number_added o.mutation ≡ Some x.1 → Contains terms x
    by o (inl is) i added =
        Contains-here ((id 1 q, negsuc 6) ∷ []) (same_term five (ap (λ (z : Op). z.id) is ∙ i) refl (ap (λ (z : Op). number_added z.mutation) is ∙ added))
    by o (inr behind) i added =
        elim (Contains-cases minus_seven [] behind) [
          | inl is ↦ Contains-there (id 1 p, pos 5) ((id 1 q, negsuc 6) ∷ []) (Contains-here [] (same_term minus_seven (ap (λ (z : Op). z.id) is ∙ i) refl (ap (λ (z : Op). number_added z.mutation) is ∙ added)))
          | inr none ↦ absurd (Contains-nil none)
        ]

are_terms : AreTerms (facts (replay both)) root k terms
are_terms = record {
  rising = (
    (λ y h. elim (Contains-cases (id 1 q, negsuc 6) [] h) [ inl is ↦ subst (λ (z : Id × ℤ). id_cmp (id 1 p) z.0 ≡ Less) is refl | inr none ↦ absurd (Contains-nil none) ]),
    ((λ y h. absurd (Contains-nil h)), tt),
  );
  each = λ x h. elim (Contains-cases (id 1 p, pos 5) ((id 1 q, negsuc 6) ∷ []) h) [
    | inl is ↦ subst (IsTerm both) is refl
    | inr behind ↦ elim (Contains-cases (id 1 q, negsuc 6) [] behind) [ inl is ↦ subst (IsTerm both) is refl | inr none ↦ absurd (Contains-nil none) ]
  ];
  all = among;
}

both_count : Reads (at_server both) (record { mine = 0; copied = 0 }) (Look Sum (record { start = record { path = []; key = Doc }; steps = Get (codes "n") ∷ [] })) (reply.Sum (negsuc 1))
both_count = (Ok (record { path = root; key = k }), (Ok (record { path = root; key = k }), refl, refl), (Ok (negsuc 1), (refl, (terms, are_terms, refl)), refl))

-- ---- the assignment takes the 5 out

abbrev left : List (Id × ℤ)
left = (id 1 q, negsuc 6) ∷ []

among_left : (x : Id × ℤ) → IsTerm log x → Contains left x
among_left x h = let r = counter_from log root k x.0 x.1 good h in by r.0 (Contains-cases five (minus_seven ∷ assigned ∷ []) r.1.logged) ((here_from r.0 root k x.0 r.1.here).id) r.2
  where
    last : (o : Op) → Contains (assigned ∷ []) o → number_added o.mutation ≡ Some x.1 → Contains left x
    last o c added =
        elim (Contains-cases assigned [] c) [
          | inl is ↦ absurd (some≢none (sym (ap (λ (z : Op). number_added z.mutation) is ∙ added)))
          | inr none ↦ absurd (Contains-nil none)
        ]

    by : (o : Op) → (five ≡ o) ⊎ Contains (minus_seven ∷ assigned ∷ []) o → o.id ≡ x.0 → number_added o.mutation ≡ Some x.1 → Contains left x
    by o (inl is) i added =
        absurd (some≢none (sym h ∙ ap (λ (j : Id). (facts (replay log)).counter root k j) (sym i ∙ ap (λ (z : Op). z.id) (sym is))))
    by o (inr behind) i added =
        elim (Contains-cases minus_seven (assigned ∷ []) behind) [
          | inl is ↦ Contains-here [] (same_term minus_seven (ap (λ (z : Op). z.id) is ∙ i) refl (ap (λ (z : Op). number_added z.mutation) is ∙ added))
          | inr later ↦ last o later added
        ]

are_left : AreTerms (facts (replay log)) root k left
are_left = record {
  rising = ((λ y h. absurd (Contains-nil h)), tt);
  each = λ x h. elim (Contains-cases (id 1 q, negsuc 6) [] h) [ inl is ↦ subst (IsTerm log) is refl | inr none ↦ absurd (Contains-nil none) ];
  all = among_left;
}

one_counts : Reads (at_server log) (record { mine = 0; copied = 0 }) (Look Sum (record { start = record { path = []; key = Doc }; steps = Get (codes "n") ∷ [] })) (reply.Sum (negsuc 6))
one_counts = (Ok (record { path = root; key = k }), (Ok (record { path = root; key = k }), refl, refl), (Ok (negsuc 6), (refl, (left, are_left, refl)), refl))
