use Rattle.std.proofs.Common.{◌≡◌, [], ◌∷◌, ◌++◌, map, ap, ◌∙◌}
use Rattle.server_core.proofs.Attending.{ends_there, goes_on}
use Rattle.server_core.proofs.sessions.attend_line.Goals as goal

pub loop-preserved : goal.loop-preserved
loop-preserved g c =
    let why = c.attend_one-why.result.0 in
    let ends = c.attend_one-why.result.1.items in
    let ended : c.push.new.self.endings.items ≡ c.loop.line.endings.items ++ why ∷ [] = c.push.ensures.endings ∙ ap (λ xs. xs ++ why ∷ []) c.reserve.ensures.same.0 in
    let given : map (λ s. s.items) c.push.new.self.sessions.items ≡ map (λ s. s.items) c.loop.line.sessions.items ++ ends ∷ [] =
    c.push.ensures.sessions ∙ ap (λ xs. map (λ s. s.items) xs ++ ends ∷ []) c.reserve.ensures.same.1 in
    record { waits = (tt, tt); at = goes_on c.loop.invariant.at why ends c.attend_one-why.ensures _ _ ended given c.in-Some-next.next c.in-Some-next.ensures }

pub returns-in-None-next : goal.returns-in-None-next
returns-in-None-next g c =
    let why = c.attend_one-why.result.0 in
    let ends = c.attend_one-why.result.1.items in
    let ended : c.push.new.self.endings.items ≡ c.loop.line.endings.items ++ why ∷ [] = c.push.ensures.endings ∙ ap (λ xs. xs ++ why ∷ []) c.reserve.ensures.same.0 in
    let given : map (λ s. s.items) c.push.new.self.sessions.items ≡ map (λ s. s.items) c.loop.line.sessions.items ++ ends ∷ [] =
    c.push.ensures.sessions ∙ ap (λ xs. map (λ s. s.items) xs ++ ends ∷ []) c.reserve.ensures.same.1 in
    ends_there c.loop.invariant.at why ends c.attend_one-why.ensures _ _ ended given
