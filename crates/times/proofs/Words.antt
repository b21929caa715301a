-- Four bytes and the number that they say.
use Rattle.std.proofs.Common.{◌≡◌, ℕ, suc, ◌+◌, ◌*◌, ◌<◌, ◌≤◌, List, [], ◌∷◌, ◌++◌, length, get_or, take, drop, sym, refl, ap, ◌∙◌, arith, take-append-drop, drop-cons, take-take, drop-drop, w32, of_z}
use Rattle.std.specs.List.{AllByRecursion}
use Rattle.std.proofs.ByRecursion.{All-get_or}
use Rattle.std.proofs.lemmas.List.{drop-take}
use Rattle.std.proofs.lemmas.Int.{of_z-to_z}
use Rattle.times.specs.Coding.{word_at, word_bytes, signed_at}

list4 : {a b c d a' b' c' d' : ℕ} → a ≡ a' → b ≡ b' → c ≡ c' → d ≡ d' → ◌≡◌ {A = List ℕ} (a ∷ b ∷ c ∷ d ∷ []) (a' ∷ b' ∷ c' ∷ d' ∷ [])
list4 p q r s = cc

word_again : (a b c d : ℕ) → a < 256 → b < 256 → c < 256 → d < 256 → word_bytes (a * 16777216 + b * 65536 + c * 256 + d) ≡ a ∷ b ∷ c ∷ d ∷ []
word_again a b c d ha hb hc hd = list4 (omega arith) (omega arith) (omega arith) (omega arith)

pub four : (bytes : List ℕ) (at : ℕ) → at + 4 ≤ length bytes → take 4 (drop at bytes) ≡ get_or bytes at 0 ∷ get_or bytes (at + 1) 0 ∷ get_or bytes (at + 2) 0 ∷ get_or bytes (at + 3) 0 ∷ []
four bytes at h =
    let p : suc at ≡ at + 1 = omega arith in
    let q : suc (suc at) ≡ at + 2 = omega arith in
    let r : suc (suc (suc at)) ≡ at + 3 = omega arith in
    let h0 : at < length bytes = omega arith in
    let h1 : suc at < length bytes = omega arith in
    let h2 : suc (suc at) < length bytes = omega arith in
    let h3 : suc (suc (suc at)) < length bytes = omega arith in
    rw (drop-cons bytes at 0 h0, drop-cons bytes (suc at) 0 h1, drop-cons bytes (suc (suc at)) 0 h2, drop-cons bytes (suc (suc (suc at))) 0 h3)
    (list4 refl (ap (λ k. get_or bytes k 0) p) (ap (λ k. get_or bytes k 0) q) (ap (λ k. get_or bytes k 0) r))

-- the four bytes at a place, read and written again
pub again : (bytes : List ℕ) (at : ℕ) → AllByRecursion (λ b. b < 256) bytes → at + 4 ≤ length bytes → word_bytes (of_z w32 (signed_at bytes at)) ≡ take 4 (drop at bytes)
again bytes at small room =
    let a = All-get_or (λ b. b < 256) bytes at 0 (omega arith) small in
    let b = All-get_or (λ b. b < 256) bytes (at + 1) 0 (omega arith) small in
    let c = All-get_or (λ b. b < 256) bytes (at + 2) 0 (omega arith) small in
    let d = All-get_or (λ b. b < 256) bytes (at + 3) 0 (omega arith) small in
    ap word_bytes (of_z-to_z w32 (word_at bytes at) (omega arith)) ∙ word_again _ _ _ _ a b c d ∙ sym (four bytes at room)

pub eight : (bytes : List ℕ) (at : ℕ) → take 8 (drop at bytes) ≡ take 4 (drop at bytes) ++ take 4 (drop (at + 4) bytes)
eight bytes at =
    let l = drop at bytes in
    let join = take-append-drop 4 (take 8 l) in
    let low = take-take 4 8 l (omega arith) in
    let high = drop-take 4 4 l in
    let far = drop-drop 4 at bytes in
    cc

both : {a b c d : List ℕ} → a ≡ c → b ≡ d → a ++ b ≡ c ++ d
both p q = cc

pub again_twice : (bytes : List ℕ) (at : ℕ) → AllByRecursion (λ b. b < 256) bytes → at + 8 ≤ length bytes → word_bytes (of_z w32 (signed_at bytes at)) ++ word_bytes (of_z w32 (signed_at bytes (at + 4))) ≡ take 8 (drop at bytes)
again_twice bytes at small room =
    let low = again bytes at small (omega arith) in
    let high = again bytes (at + 4) small (omega arith) in
    both low high ∙ sym (eight bytes at)
