-- The search for a half byte one try at a time, as the loop of tries goes, and its law.
use Rattle.std.proofs.Common.{◌≡◌, ℕ, zero, suc, ◌-◌, ◌<◌, ◌⊎◌, refl, inl, inr, ⊎_elim, le_of_suc-le-suc, sub-one, arith}
use lib.Bits.{bit_and}
use Rattle.std.proofs.lemmas.Bool.{eq-eqb, ne_eqb, cases_eq}
use Rattle.cave.specs.Lfsr.{cycled, d_raised}
use Rattle.cave.specs.Sides.{mask_of}
use Rattle.cave.specs.Mix.{tried, half_at, moved}
use Rattle.cave.specs.Tries.{cycles, offset_after, Equal, FirstDiffering, Forced, Search}
use Rattle.cave.specs.declared.side.Side.{Side}
use Rattle.cave.specs.declared.side.Tried.{Tried}
use Rattle.cave.proofs.Turns.{turning}

module _ (s : Side) (r h w o : ℕ) where
  pub tried_differs : (n : ℕ) → 0 < n → (half_at s (moved s r w o) ≡ bit_and r (mask_of s) → ⊥) → tried s n r h w o ≡ record { lfsr = w; offset = moved s r w o; half = half_at s (moved s r w o) }
  unfolding tried
  tried_differs zero p d = absurd (omega arith)
  tried_differs (suc n) p d = rw (ne_eqb _ _ d) refl

  pub tried_again : (n : ℕ) → 0 < n → half_at s (moved s r w o) ≡ bit_and r (mask_of s) → tried s n r h w o ≡ tried s (n - 1) r (half_at s (moved s r w o)) (cycled w) (moved s r w o)
  unfolding tried
  tried_again zero p e = absurd (omega arith)
  tried_again (suc n) p e = rw (sub-one, eq-eqb _ _ e) refl

  -- with a try left, the half of the last one does not matter
  pub tried_any : (n : ℕ) → 0 < n → tried s n r h w o ≡ tried s n r 0 w o
  unfolding tried
  tried_any zero p = absurd (omega arith)
  tried_any (suc n) p = refl

  pub tried_none : (n : ℕ) → n ≡ 0 → tried s n r h w o ≡ record { lfsr = d_raised w; offset = o; half = h }
  unfolding tried
  tried_none n e = rw e refl

-- what the loops of `mix` go by
pub ruleset mixing_steps = (turning, tried_differs, tried_again, tried_any, tried_none)

-- The law of the search.
module _ (s : Side) (r : ℕ) where
  -- one equal try more in front
  front : (w o n : ℕ) → Equal s r w o 0 → ((j : ℕ) → j < n → Equal s r (cycled w) (moved s r w o) j) → (j : ℕ) → j < suc n → Equal s r w o j
  unfolding offset_after
  front w o n e all zero h = e
  front w o n e all (suc j) h = all j (le_of_suc-le-suc h)

  later : (w o n : ℕ) (t : Tried) → Equal s r w o 0 → FirstDiffering s n r (cycled w) (moved s r w o) t ⊎ Forced s n r (cycled w) (moved s r w o) t → FirstDiffering s (suc n) r w o t ⊎ Forced s (suc n) r w o t
  unfolding offset_after cycles
  later w o n t e (inl f) = inl (record { at = suc f.at; within = omega (arith, f.within); before = front w o f.at e f.before; differs = f.differs; gives = f.gives })
  later w o n t e (inr f) = inr (record { all = front w o n e f.all; gives = f.gives })

  searched : (n w o h : ℕ) → h ≡ bit_and r (mask_of s) → FirstDiffering s n r w o (tried s n r h w o) ⊎ Forced s n r w o (tried s n r h w o)
  unfolding tried offset_after cycles
  searched zero w o h e = inr (record { all = λ j l. absurd (omega arith); gives = rw e refl })
  searched (suc n) w o h e =
      ⊎_elim
      (λ (q : half_at s (moved s r w o) ≡ bit_and r (mask_of s)). rw (eq-eqb _ _ q) (later w o n _ q (searched n _ _ _ q)))
      (λ (d : half_at s (moved s r w o) ≡ bit_and r (mask_of s) → ⊥). rw (ne_eqb _ _ d) (inl (record { at = 0; within = omega arith; before = λ j l. absurd (omega arith); differs = d; gives = refl })))
      (cases_eq (half_at s (moved s r w o)) (bit_and r (mask_of s)))

  pub search_law : (w o : ℕ) → Search s r w o (tried s 32 r 0 w o)
  search_law w o = rw (← tried_any s r (bit_and r (mask_of s)) w o 32 (omega arith)) (searched 32 w o (bit_and r (mask_of s)) refl)
