use Rattle.std.proofs.Common.{◌≡◌, ℕ, ◌<◌, List, length, get_or, true, false, sym, ap, ◌∙◌, arith}
use Rattle.std.specs.List.{zip}
use Rattle.std.proofs.lemmas.Slice.Zip.{get_or-zip}
use Rattle.version_vector.specs.Front.{reaches}
use Rattle.version_vector.proofs.FrontPairs.{length-pairs}
use Rattle.version_vector.proofs.Steps.{any_more, any_holds, any_done}
use Rattle.version_vector.proofs.front.covers_anywhere.Goals as goal

pub loop-at-preserved : goal.loop-at-preserved
loop-at-preserved c =
    let names = c.args.names.now in
    let counters = c.args.counters.now in
    let at = c.loop-at.at in
    let named : at < length names = c.loop-at-test.true in
    let here : at < length counters = omega (arith, c.requires, named) in
    let within : at < length (zip names counters) = omega (arith, length-pairs names counters c.requires, here) in
    let first : List ℕ × ℕ = (c.index-names-at.result, 0) in
    let fails : reaches c.args.id.now (get_or (zip names counters) at first) ≡ false =
    ap (reaches c.args.id.now) (get_or-zip names counters at first named here) ∙ (λ i. reaches c.args.id.now (sym c.index-names-at.is i, sym c.at.ensures i)) ∙ sym c.reaches.ensures
    ∙ c.if-reaches.false in
    any_more (reaches c.args.id.now) (zip names counters) at first within fails c.loop-at.invariant

pub returns-then-reaches : goal.returns-then-reaches
returns-then-reaches c =
    let names = c.args.names.now in
    let counters = c.args.counters.now in
    let at = c.loop-at.at in
    let named : at < length names = c.loop-at-test.true in
    let here : at < length counters = omega (arith, c.requires, named) in
    let within : at < length (zip names counters) = omega (arith, length-pairs names counters c.requires, here) in
    let first : List ℕ × ℕ = (c.index-names-at.result, 0) in
    let holds : reaches c.args.id.now (get_or (zip names counters) at first) ≡ true =
    ap (reaches c.args.id.now) (get_or-zip names counters at first named here) ∙ (λ i. reaches c.args.id.now (sym c.index-names-at.is i, sym c.at.ensures i)) ∙ sym c.reaches.ensures
    ∙ c.if-reaches.true in
    any_holds (reaches c.args.id.now) (zip names counters) at first within holds c.loop-at.invariant

pub returns : goal.returns
returns c =
    any_done (reaches c.args.id.now) (zip c.args.names.now c.args.counters.now) c.loop-at.at
    (omega (arith, length-pairs c.args.names.now c.args.counters.now c.requires, c.requires, c.loop-at-test.false)) c.loop-at.invariant
