-- Room for what a call puts into a lent array.
use Rattle.std.specs.Prelude.{ℕ, cond, nat_lt}
use Rattle.refusals.specs.Answers.{Answer, given, refused, refusal_at}
use Rattle.refusals.specs.declared.Refusal.{Refusal}
use Rattle.refusals.specs.declared.rooms.NoRoom.{NoRoom}

-- 11: the room is less than the size that is needed
abbrev pub room_answer : ℕ → ℕ → Answer (Unit {0})
room_answer room size = cond (nat_lt room size) (refused (refusal_at 11 size)) (given tt)

abbrev pub no_room_refusal : NoRoom → Refusal
no_room_refusal f = refusal_at 11 f.0
