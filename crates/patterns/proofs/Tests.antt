-- Tests and what they say. Assumes nothing.
use mathlib.Core.Path.{◌≡◌, refl, sym, subst}
use mathlib.Core.Bool.{Bool, true, false, ◌&&◌, ◌||◌}
use mathlib.Core.Logic.{◌⊎◌, inl, inr}
use lib.Dec.{T}

pub T_of : {b : Bool} → b ≡ true → T b
T_of e = subst T (sym e) tt

pub of_T : (b : Bool) → T b → b ≡ true
of_T true t = refl
of_T false t = absurd t

pub and_l : (a b : Bool) → T (a && b) → T a
and_l true b t = tt
and_l false b t = t

pub and_r : (a b : Bool) → T (a && b) → T b
and_r true b t = t
and_r false b t = absurd t

pub and_t : (a b : Bool) → T a → T b → T (a && b)
and_t true b t u = u
and_t false b t u = t

pub and_no : (a b : Bool) → (T a → T b → ⊥) → (a && b) ≡ false
and_no true true f = absurd (f tt tt)
and_no true false f = refl
and_no false b f = refl

pub or_cases : (a b : Bool) → (a || b) ≡ true → (a ≡ true) ⊎ (b ≡ true)
or_cases true b e = inl refl
or_cases false b e = inr e

abbrev pub implies : Bool → Bool → Bool
implies true b = b
implies false b = true

pub modus : (a b : Bool) → T (implies a b) → T a → T b
modus true b t u = t
modus false b t u = absurd u
