-- What `array::from_fn` makes of a closure that each call leaves as it was.
use Rattle.std.proofs.Common.{◌≡◌, ℕ, zero, suc, ◌+◌, ◌<◌, ◌≤◌, List, get_or, ◌∙◌, ⊎_elim, arith}
use denote.Param.Members.{Mut, Called}
use Rattle.std.specs.Array.{IsFromFnResultFrom}
use Rattle.std.proofs.lemmas.Bool.{cases_lt}

module _ {F : Type 0} (g : Mut F (ℕ × Unit {0}) ℕ) (f : F) (value : ℕ → ℕ) (end : ℕ) (step : (i y : ℕ) (q : F) → i < end → Called g f (i, tt) y q → (y ≡ value i) × (q ≡ f)) where
  pub made : (ys : List ℕ) (i n k : ℕ) → i + n ≤ end → IsFromFnResultFrom g f ys i n → i ≤ k → k < i + n → get_or ys k 0 ≡ value k
  made ys i zero k le m from to = absurd (omega arith)
  made ys i (suc n) k le m from to =
      let now = step i m.1 m.0 (omega arith) m.3 in
      ⊎_elim
      (λ (later : i < k). made ys (i + 1) n k (omega arith) (rw now.1 at m.4) (omega arith) (omega arith))
      (λ (here : k ≤ i). let e : k ≡ i = omega arith in rw e (m.2.1 0 ∙ now.0))
      (cases_lt i k)
