-- What the answer of a file says of its fields, and the answer from those of its parts.
use Rattle.std.proofs.Common.{◌≡◌, ℕ, ◌≤◌, Bool, true, false, cond, ltb, List, [], ◌∷◌, sym, refl, ap, ◌∙◌, subst, inl, inr}
use Rattle.std.proofs.lemmas.Bool.{le-leb, lt-leb, ltb-true, ltb-false, lt-ltb, le-ltb}
use Rattle.refusals.specs.Answers.{Answer, given, refused, and_then, refusal_at}
use Rattle.refusals.specs.declared.Refusal.{Refusal}
use Rattle.fields.specs.Fields.{Field, checked, AllKept, FirstRefused, JudgedFields}
use Rattle.fields.specs.Laid.{passing}
use Rattle.refusals.specs.Rooms.{room_answer}
use Rattle.fields.specs.Readings.{read_file, AllRead, ReadRefused, in_header, no_room, in_body, ReadSays, RefusedExactly}
use Rattle.fields.proofs.Chains.{never, checked_judged}
use Rattle.fields.proofs.Laid.{yes}

-- fields that are kept pass
pub kept_checked : {X : Type 0} (file : List ℕ) (fs : List Field) (x : X) → AllKept file fs → checked file fs x ≡ given x
kept_checked file [] x h = refl
kept_checked file (f ∷ fs) x h = rw (le-leb _ _ h.0.there, h.0.kept) (kept_checked file fs x h.1)

-- the first field that is not kept refuses all
pub first_checked : {X : Type 0} (file : List ℕ) (fs : List Field) (x : X) (r : Refusal) → FirstRefused file fs r → checked file fs x ≡ refused r
first_checked file [] x r h = absurd h
first_checked file (f ∷ fs) x r (inl (inl e)) = rw (lt-leb _ _ e.ends) (ap refused (sym e.named))
first_checked file (f ∷ fs) x r (inl (inr b)) = rw (le-leb _ _ b.there, b.broken) (ap refused (sym b.named))
first_checked file (f ∷ fs) x r (inr k) = rw (le-leb _ _ k.0.there, k.0.kept) (first_checked file fs x r k.1)

given_room : (b : Bool) (r : Refusal) → yes ≡ cond b (refused r) (given tt) → b ≡ false
given_room true r e = never r tt (sym e)
given_room false r e = refl

-- an array that has room for so much is as long
pub room_for : (room size : ℕ) → yes ≡ room_answer room size → size ≤ room
room_for room size e = ltb-false room size (given_room (ltb room size) (refusal_at 11 size) e)

module _ (file : List ℕ) (header body : List Field) (size room : ℕ) where
  module _ {X : Type 0} where
    abbrev by_room : Bool → Answer X → Answer X
    by_room short b = and_then (cond short (refused (refusal_at 11 size)) (given (tt {0}))) (λ _. b)

    in_words : (h : Answer (Unit {0})) (short : Bool) (b : Answer X) → JudgedFields file header h → ltb room size ≡ short → JudgedFields file body b → ReadSays file header body size room (and_then h (λ _. by_room short b))
    in_words (refused r) short b j t k = in_header r j
    in_words (given u) true b j t k = no_room j (ltb-true room size t)
    in_words (given u) false (refused r) j t k = in_body r j (ltb-false room size t) k
    in_words (given u) false (given x) j t k =
        record { header_kept = j; room_for = ltb-false room size t; body_kept = k }

  module _ {X : Type 0} (x : X) where
    abbrev answer : Answer X
    answer = read_file file header body size room x

    pub read_says : ReadSays file header body size room answer
    read_says =
        in_words (passing file header) (ltb room size) (checked file body x) (checked_judged file header (tt {0})) refl (checked_judged file body x)

    pub read_is : AllRead file header body size room → answer ≡ given x
    read_is h =
        let head : passing file header ≡ yes = kept_checked file header tt h.header_kept in
        rw (head, le-ltb room size h.room_for) (kept_checked file body x h.body_kept)

    refused_is : (r : Refusal) → ReadRefused file header body size room r → answer ≡ refused r
    refused_is r (in_header q h) =
        let head : passing file header ≡ refused q = first_checked file header tt q h in
        rw head
    refused_is r (no_room k l) =
        let head : passing file header ≡ yes = kept_checked file header tt k in
        rw (head, lt-ltb room size l)
    refused_is r (in_body q k l h) =
        let head : passing file header ≡ yes = kept_checked file header tt k in
        rw (head, le-ltb room size l) (first_checked file body x q h)

    pub refuses_exactly : (r : Refusal) → RefusedExactly file header body size room answer r
    refuses_exactly r =
        record { only = λ e. subst (ReadSays file header body size room) e read_says; always = refused_is r }

    -- a refusal of a part is that of the whole

    pub header_stops : (r : Refusal) → refused r ≡ passing file header → refused r ≡ answer
    header_stops r e = ap (λ a. and_then a (λ _. and_then (room_answer room size) (λ _. checked file body x))) e

    module _ (headed : yes ≡ passing file header) where
      past_header : and_then (room_answer room size) (λ _. checked file body x) ≡ answer
      past_header = ap (λ a. and_then a (λ _. and_then (room_answer room size) (λ _. checked file body x))) headed

      pub room_stops : (r : Refusal) → refused r ≡ room_answer room size → refused r ≡ answer
      room_stops r e = ap (λ a. and_then a (λ _. checked file body x)) e ∙ past_header

      pub body_is : yes ≡ room_answer room size → checked file body x ≡ answer
      body_is e = ap (λ a. and_then a (λ _. checked file body x)) e ∙ past_header
