use Rattle.std.proofs.Common.{ℕ, ◌<◌, List, length, ◌∙◌, sym, arith}
use Rattle.std.proofs.lemmas.Slice.Zip.{get_or-zip}
use Rattle.version_vector.proofs.FrontPairs.{pair-at}
use Rattle.version_vector.proofs.front.pair_of.Goals as goal

abbrev pair : List ℕ → ℕ → List ℕ × ℕ
pair name counter = (name, counter)

pub returns : goal.returns
returns c d =
    let names = c.args.names.now in
    let counters = c.args.counters.now in
    let here : c.args.at < length counters = c.requires.at in
    let named : c.args.at < length names = omega (arith, c.requires.len, here) in
    let first : List ℕ × ℕ = (c.index-names-at.result, 0) in
    (λ i. pair (c.index-names-at.is i) (c.at.ensures i)) ∙ sym (get_or-zip names counters c.args.at first named here)
    ∙ pair-at names counters c.args.at first d c.requires.len here
