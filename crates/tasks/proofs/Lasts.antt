-- The last place with a command, counted from the back.
use Rattle.std.proofs.Common.{Iter, ◌≡◌, ℕ, suc, ◌+◌, Bool, cond, List, [], ◌∷◌, ◌++◌, length, reverse, Some, None, Option, is_some, IsSomeAnd, MatchOption, refl, ap, ◌∙◌, sym, add-zero, arith}
use denote.Param.Members.{Mut}
use denote.Ref.{Bor}
use Rattle.std.specs.Fn.{Called}
use Rattle.std.specs.Iterator.{FindsPositionBack}
use Rattle.std.specs.List.{position, position_from}
use Rattle.std.specs.Option.{unwrap_or}
use Rattle.std.specs.Slice.Iter.{iter_rest, iter_steps_back}
use Rattle.std.proofs.lemmas.Iterator.{YieldsList}
use Rattle.std.proofs.lemmas.Iterator.Adapters.{position_from-zero}
use Rattle.std.proofs.lemmas.Iterator.Consumers.{YieldsList-from_shown}
use Rattle.std.proofs.lemmas.Iterator.Search.{position_from_yields_List}
use Rattle.std.proofs.lemmas.List.{length-reverse, reverse-append, reverse-reverse}
use Rattle.tasks.specs.CheckLaws.{from_back, last_from}
use Rattle.tasks.specs.declared.command.Command.{Command}

-- with an entry more at the end
last_from_push : (l p : ℕ) (cs : List (Option Command)) (c : Option Command) → last_from l p (cs ++ c ∷ []) ≡ cond (is_some c) (p + length cs) (last_from l p cs)
last_from_push l p [] c = rw add-zero refl
last_from_push l p (x ∷ cs) c = grind (arith, last_from_push (cond (is_some x) p l) (suc p) cs c)

-- the last place of a list is where its reverse has the first command
last_reversed : (i : ℕ) (cs : List (Option Command)) → last_from 0 0 (reverse cs) ≡ from_back (length cs + i) (position_from is_some i cs)
last_reversed i [] = refl
last_reversed i (c ∷ cs) = grind (arith, reverse-append (c ∷ []) cs, last_from_push 0 0 (reverse cs) c, last_reversed (i + 1) cs, length-reverse cs)

-- the last place with a command is the first from the back
pub last_position : (cs : List (Option Command)) → last_from 0 0 cs ≡ from_back (length cs) (position is_some (reverse cs))
last_position cs =
    let size : length (reverse cs) + 0 ≡ length cs = omega (arith, length-reverse cs) in
    ap (last_from 0 0) (sym (reverse-reverse cs)) ∙ last_reversed 0 (reverse cs) ∙ rw (size, sym (position_from-zero is_some (reverse cs))) refl

-- from the back a slice gives its items in reverse
yields_back : {A : Type 0} (s : Iter A) → YieldsList iter_steps_back (λ y. y.now) s (reverse (iter_rest s))
yields_back s = YieldsList-from_shown iter_steps_back (λ y. y.now) (λ u. reverse (iter_rest u)) (λ u t p. length-reverse _ ∙ p.0) (λ u x t p. ap reverse p ∙ reverse-append (iter_rest t) (x.now ∷ [])) s

-- a place counted from the front, by one counted from the back
counted_back : {A : Type 0} (X : A → Type 0) (n k : ℕ) (o : Option A) (r : Option ℕ) → MatchOption o (r ≡ None) (λ x. IsSomeAnd r (λ i. i + 1 + k ≡ n) × X x) → (q : Option ℕ) × MatchOption o (q ≡ None) (λ x. (q ≡ Some k) × X x) × (unwrap_or r 0 ≡ from_back n q)
counted_back X n k None r m = (None, refl, ap (λ o. unwrap_or o 0) m)
counted_back X n k (Some x) (Some i) m = (Some k, (refl, m.1), omega (arith, m.0))
counted_back X n k (Some x) None m = absurd m.0

-- what `rposition` answers on a slice is the last place with a command
pub last_found : {F : Type 0} {g : Mut F (Bor (Option Command) × Unit {0}) Bool} {s u : Iter (Option Command)} {f : F} {n : ℕ} (cs : List (Option Command)) (r : Option ℕ) → FindsPositionBack iter_steps_back g s f n r u → iter_rest s ≡ cs → n ≡ length cs → ((x : Bor (Option Command)) (b : Bool) (q : F) → Called g f (x, tt) b q → (q ≡ f) × (b ≡ is_some x.now)) → last_from 0 0 cs ≡ unwrap_or r 0
last_found {F} {g} {s} {u} {f} {n} cs r ran rest_is n_is calls =
    let q = counted_back _ n (length ran.0) ran.1 r ran.5 in
    let found : q.0 ≡ position is_some (reverse (iter_rest s)) = position_from_yields_List is_some u f q.0 (ran.0, ran.1, ran.2, ran.3, ran.4, q.1) (yields_back s) calls in
    last_position cs ∙ rw (sym n_is, sym rest_is, sym found) (sym q.2)
