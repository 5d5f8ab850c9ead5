use Rattle.std.proofs.Common.{inl, inr}
use Rattle.hold_buffer.proofs.ready.announce.Goals as goal

pub returns-then-is_free-clause-members : goal.returns-then-is_free-clause-members
returns-then-is_free-clause-members c i =
    let members = c.put.ensures.members i in (
      (λ there. elim (members.0 there) [ inl same ↦ inl (c.if-is_free.true, same) | inr old ↦ inr old ]),
      (λ either. elim either [ inl both ↦ members.1 (inl both.1) | inr old ↦ members.1 (inr old) ]),
    )
