-- The slant that `best_of` finds, and how the code comes to it by four tries.
use mathlib.Core.Path.{◌≡◌, refl, subst, ◌∙◌, ap}
use mathlib.Core.Bool.{Bool, true, false, cond}
use mathlib.Core.Logic.{⊎_elim}
use mathlib.Core.List.Memᴰ
use mathlib.Core.List.{List, [], ◌∷◌, ◌++◌, append_assoc, Memᴰ}
use Prim.Native.Nat.{◌≤◌}
use lib.Dec.{T, lit≤}
use lib.IntN.{ℤ, pos, negsuc, nat_abs}
use lib.Ieee.{Float, lt, le}
use Rattle.float.proofs.Chain.{lt_le, lt_not_itself, le_lt}
use Rattle.filter.specs.Claims.{slants, whole_score, EarliestLeast}
use Rattle.filter.specs.Filter.{Sampler, Slant, score_of, slanted_of, better_of, best_of, edge_of}

-- The better of two slants of at most 2 either way is such a slant.
better_within : (best : Slant) (j : ℤ) (score : Float) → nat_abs best.by ≤ 2 → nat_abs j ≤ 2 → nat_abs (better_of best j score).by ≤ 2
unfolding better_of
better_within best j score h k = go (lt score best.score)
  where
    go : (b : Bool) → nat_abs (cond b (record { by = j; score = score }) best).by ≤ 2
    go true = k
    go false = h

pub edge_within : (cur : Sampler) (x y : ℤ) → nat_abs (edge_of cur x y) ≤ 2
unfolding edge_of best_of
edge_within cur x y =
    better_within _ (pos 2) _
    (better_within _ (negsuc 1) _ (better_within _ (pos 1) _ (better_within _ (negsuc 0) _ (lit≤ tt) (lit≤ tt)) (lit≤ tt)) (lit≤ tt))
    (lit≤ tt)

-- the slants 0, -1, 1, -2, 2 tried one after the other
pub edge_found :
    (cur : Sampler) (x y : ℤ) {upright : Float} {left right far-left far-right : Slant} →
    upright ≡ score_of cur x y (pos 0) →
    left ≡ better_of (record { by = pos 0; score = upright }) (negsuc 0) (slanted_of cur x y (negsuc 0)) →
    right ≡ better_of left (pos 1) (slanted_of cur x y (pos 1)) →
    far-left ≡ better_of right (negsuc 1) (slanted_of cur x y (negsuc 1)) →
    far-right ≡ better_of far-left (pos 2) (slanted_of cur x y (pos 2)) →
    far-right.by ≡ edge_of cur x y
unfolding edge_of best_of
edge_found cur x y a b c d e = cc

-- ---- the earliest of the least scores

false_of : (b : Bool) → (T b → ⊥) → b ≡ false
false_of true h = absurd (h tt)
false_of false h = refl

holds_not : {b : Bool} → b ≡ false → T b → ⊥
holds_not e t = subst T e t

-- the best of those tried so far, with its score
record Leads (score : ℤ → Float) (tried : List ℤ) (best : Slant) : Type 0 where
  its_score : best.score ≡ score best.by
  first : EarliestLeast score tried best.by

module _ (score : ℤ → Float) where
  -- alone
  leads_alone : (j : ℤ) → Leads score (j ∷ []) (record { by = j; score = score j })
  leads_alone j = record {
    its_score = refl;
    first = record {
      earlier = [];
      later = [];
      stands = refl;
      least = λ i m. false_of _ (λ t. lt_not_itself (score j) (subst (λ (k : ℤ). T (lt (score k) (score j))) (Memᴰ.eq_of_singleton m) t));
      earliest = λ i m. absurd (Memᴰ.not-nil m);
    };
  }

  module _ (tried : List ℤ) (best : Slant) (old : Leads score tried best) (j : ℤ) where
    -- one more is tried, and is no better
    leads_still : lt (score j) best.score ≡ false → Leads score (tried ++ (j ∷ [])) best
    leads_still worse = record {
      its_score = old.its_score;
      first = record {
        earlier = old.first.earlier;
        later = old.first.later ++ (j ∷ []);
        stands = ap (λ (l : List ℤ). l ++ (j ∷ [])) old.first.stands ∙ append_assoc old.first.earlier (best.by ∷ old.first.later) (j ∷ []);
        least = λ i m. ⊎_elim (old.first.least i) (last i) (Memᴰ.append_cases tried m);
        earliest = old.first.earliest;
      };
    }
      where
        last : (i : ℤ) → Memᴰ i (j ∷ []) → lt (score i) (score best.by) ≡ false
        last i m = let e = Memᴰ.eq_of_singleton m in let f = old.its_score in cc

    -- one more is tried, and is better: none before it is at most it, or it would be below the best before it
    leads_now : T (lt (score j) best.score) → Leads score (tried ++ (j ∷ [])) (record { by = j; score = score j })
    leads_now better = record {
      its_score = refl;
      first = record {
        earlier = tried;
        later = [];
        stands = refl;
        least = λ i m. ⊎_elim (λ h. false_of _ (λ t. before i h (lt_le (score i) (score j) t))) (itself i) (Memᴰ.append_cases tried m);
        earliest = λ i m. false_of _ (before i m);
      };
    }
      where
        before : (i : ℤ) → Memᴰ i tried → T (le (score i) (score j)) → ⊥
        before i m t =
            holds_not (old.first.least i m) (le_lt (score i) (score j) (score best.by) t (subst (λ (f : Float). T (lt (score j) f)) old.its_score better))

        itself : (i : ℤ) → Memᴰ i (j ∷ []) → lt (score i) (score j) ≡ false
        itself i m = false_of _ (λ t. lt_not_itself (score j) (subst (λ (k : ℤ). T (lt (score k) (score j))) (Memᴰ.eq_of_singleton m) t))

    leads_more : Leads score (tried ++ (j ∷ [])) (better_of best j (score j))
    unfolding better_of
    leads_more = go (lt (score j) best.score) leads_still leads_now
      where
        go :
            (b : Bool) → (b ≡ false → Leads score (tried ++ (j ∷ [])) best) → (T b → Leads score (tried ++ (j ∷ [])) (record { by = j; score = score j })) →
            Leads score (tried ++ (j ∷ [])) (cond b (record { by = j; score = score j }) best)
        go true still better = better tt
        go false still better = still refl

pub edge_is_earliest_least : (cur : Sampler) (x y : ℤ) → EarliestLeast (whole_score cur x y) slants (edge_of cur x y)
unfolding edge_of best_of
edge_is_earliest_least cur x y =
    let score = whole_score cur x y in
    let upright = leads_alone score (pos 0) in
    let left = leads_more score _ _ upright (negsuc 0) in
    let right = leads_more score _ _ left (pos 1) in
    let far-left = leads_more score _ _ right (negsuc 1) in
    (leads_more score _ _ far-left (pos 2)).first
