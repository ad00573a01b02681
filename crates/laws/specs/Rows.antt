-- Rows laid end to end, as planes and pictures lie in memory, and what a lent list holds once its front is written.
use Rattle.std.specs.Prelude.{ℕ, zero, suc, List, [], ◌∷◌, ◌++◌, length, drop}

-- f 0, f 1, .. , f (n - 1)
unfoldable pub listed : {A : Type 0} → ℕ → (ℕ → A) → List A
listed zero f = []
listed (suc n) f = listed n f ++ (f n ∷ [])

-- row 0, then row 1, up to row n - 1
unfoldable pub laid : {A : Type 0} → ℕ → (ℕ → List A) → List A
laid zero row = []
laid (suc n) row = laid n row ++ row n

-- new written at the front of old; what lies behind stays
abbrev pub over : {A : Type 0} → List A → List A → List A
over new old = new ++ drop (length new) old
