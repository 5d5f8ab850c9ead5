use Rattle.std.proofs.Common.{◌≡◌, ◌||◌, not, Bool, true, false, List, [], ◌∷◌, refl, sym, ap, ◌∙◌, true≢false}
use Rattle.std.proofs.Math.Bool.{or_comm}
use Rattle.std.specs.List.{list_any}
use Rattle.std.proofs.lemmas.Bool.{and_parts}
use Rattle.doc_api.specs.Words.{Id}
use Rattle.doc_api.specs.declared.role.Role.{Role}
use Rattle.presence_set.specs.EmptyPut.{puts_map, puts_list}
use Rattle.doc_view.proofs.roles.empty_put.Goals as goal

turn : (a b f : Bool) → ((a || b) || f) ≡ (b || (a || f))
turn true true f = refl
turn true false f = refl
turn false b f = refl

abbrev map_role : Id × Role → Bool
map_role e = puts_map e.1

abbrev list_role : Id × Role → Bool
list_role e = puts_list e.1

one_more : (test : Id × Role → Bool) (all left rest : List (Id × Role)) (e : Id × Role) (found next : Bool) → list_any test all ≡ (list_any test left || found) → left ≡ e ∷ rest
    → next ≡ (test e || found) → list_any test all ≡ (list_any test rest || next)
one_more test all left rest e found next so_far is then_is =
    so_far ∙ ap (λ l. list_any test l || found) is ∙ turn (test e) (list_any test rest) found ∙ ap (λ b. list_any test rest || b) (sym then_is)

none_left : (test : Id × Role → Bool) (all left : List (Id × Role)) (found : Bool) → list_any test all ≡ (list_any test left || found) → left ≡ [] → found ≡ list_any test all
none_left test all left found so_far is = sym (so_far ∙ ap (λ l. list_any test l || found) is)

-- what is found is all, once it is found or can't be there
found_is : (all left found may : Bool) → all ≡ (left || found) → (may ≡ false → all ≡ false) → (found || not may) ≡ true → found ≡ all
found_is all true true may so_far covered done = sym so_far
found_is all false true may so_far covered done = sym so_far
found_is all left false false so_far covered done = sym (covered refl)
found_is all left false true so_far covered done = absurd (true≢false (sym done))

pub loop-entry-init : goal.loop-entry-init
loop-entry-init c =
    let same = sym c.into_iter-entry-iterator.ensures.into_iter_gives in (
      ap (list_any map_role) same ∙ sym (or_comm (list_any map_role c.into_iter-entry-iterator.result) false)
          ∙ ap (λ b. list_any map_role c.into_iter-entry-iterator.result || b) (sym c.none-put.ensures.map),
      ap (list_any list_role) same ∙ sym (or_comm (list_any list_role c.into_iter-entry-iterator.result) false)
          ∙ ap (λ b. list_any list_role c.into_iter-entry-iterator.result || b) (sym c.none-put.ensures.list),
    )

pub loop-entry-preserved : goal.loop-entry-preserved
loop-entry-preserved c = (
  one_more map_role c.args.roles c.loop-entry.entry-iterator c.next.new.self c.in-Some.entry.now c.loop-entry.put.map c.with-put.result.map c.loop-entry.invariant.0 c.in-Some.ensures.steps c.with-put.ensures.map,
  one_more list_role c.args.roles c.loop-entry.entry-iterator c.next.new.self c.in-Some.entry.now c.loop-entry.put.list c.with-put.result.list c.loop-entry.invariant.1 c.in-Some.ensures.steps c.with-put.ensures.list,
)

pub returns-clause-map : goal.returns-clause-map
returns-clause-map c = none_left map_role c.args.roles c.loop-entry.entry-iterator c.loop-entry.put.map c.loop-entry.invariant.0 c.in-None.ensures.steps.0

pub returns-clause-list : goal.returns-clause-list
returns-clause-list c = none_left list_role c.args.roles c.loop-entry.entry-iterator c.loop-entry.put.list c.loop-entry.invariant.1 c.in-None.ensures.steps.0

pub returns-then-has_all-clause-map : goal.returns-then-has_all-clause-map
returns-then-has_all-clause-map c =
    let put = c.loop-entry.put in
    let may = c.args.may in
    let done = and_parts (put.map || not may.map) (put.list || not may.list) (sym c.if-has_all.ensures) in
    found_is (list_any map_role c.args.roles) (list_any map_role c.loop-entry.entry-iterator) put.map may.map c.loop-entry.invariant.0 c.requires.map done.0

pub returns-then-has_all-clause-list : goal.returns-then-has_all-clause-list
returns-then-has_all-clause-list c =
    let put = c.loop-entry.put in
    let may = c.args.may in
    let done = and_parts (put.map || not may.map) (put.list || not may.list) (sym c.if-has_all.ensures) in
    found_is (list_any list_role c.args.roles) (list_any list_role c.loop-entry.entry-iterator) put.list may.list c.loop-entry.invariant.1 c.requires.list done.1
