-- Parts of a table that are filled.
use Rattle.std.specs.Prelude.{◌≡◌, [], ◌∷◌, ◌++◌, ℕ, zero, suc, ◌+◌, ◌-◌, ◌<◌, length, replicate}
use Rattle.std.proofs.Common.{ap, sym, ◌∙◌, arith}
use Rattle.std.proofs.Math.Path.{fun_ext}
use Rattle.std.proofs.Math.Decide.{dec_lt}
use Rattle.std.proofs.lemmas.List.{length-replicate, get_or-replicate}
use Rattle.lists.specs.Entries.{put-more}
use Rattle.lists.specs.Search.{below, count}
use Rattle.lists.specs.Lengths.{length-below}
use Rattle.lists.specs.Tables.{put, put_all, put_all-in, put_all-before, put_all-behind}
use Rattle.memory.specs.Fits.{fit, fit-in}

-- entries that all become v, which is in range, and are read as they are
pub fit-same : (bound : ℕ → ℕ) (a n v : ℕ) (f : ℕ → ℕ) → ((x : ℕ) → v < bound x) → ◌≡◌ {A = ℕ → ℕ} (λ x. fit (bound x) (put_all a (replicate n v) f x)) (put_all a (replicate n v) (λ x. fit (bound x) (f x)))
fit-same bound a n v f l = fun_ext (λ x. go x (dec_lt x a) (dec_lt x (a + length (replicate n v))))
  where
    g : ℕ → ℕ
    g x = fit (bound x) (f x)

    go : (x : ℕ) → Dec (x < a) → Dec (x < a + length (replicate n v)) → fit (bound x) (put_all a (replicate n v) f x) ≡ put_all a (replicate n v) g x
    go x (yes k) d = ap (fit (bound x)) (put_all-before a (replicate n v) f x k) ∙ sym (put_all-before a (replicate n v) g x k)
    go x (no k) (no d) = ap (fit (bound x)) (put_all-behind a (replicate n v) f x (omega arith)) ∙ sym (put_all-behind a (replicate n v) g x (omega arith))
    go x (no k) (yes d) =
        let is = get_or-replicate n (x - a) v 0 (omega (arith, length-replicate {A = ℕ} n v)) in
        ap (fit (bound x)) (put_all-in a (replicate n v) f x (omega arith) d ∙ is) ∙ fit-in (bound x) v (l x) ∙ sym (put_all-in a (replicate n v) g x (omega arith) d ∙ is)

count-more : (a n : ℕ) → count a n ++ ((a + n) ∷ []) ≡ count a (suc n)
unfolding count
count-more a zero = ap (λ k. k ∷ []) (omega arith)
count-more a (suc n) = let e : a + suc n ≡ suc a + n = omega arith in rw e (ap (λ l. a ∷ l) (count-more (suc a) n))

below_more : (n : ℕ) → below n ++ (n ∷ []) ≡ below (n + 1)
unfolding below
below_more n =
    let e : n + 1 ≡ suc n = omega arith in
    let z : n ≡ 0 + n = omega arith in
    rw e (ap (λ k. count 0 n ++ (k ∷ [])) z ∙ count-more 0 n)

pub fill-below : (a n : ℕ) (f : ℕ → ℕ) → put (a + n) n (put_all a (below n) f) ≡ put_all a (below (n + 1)) f
fill-below a n f = rw (← below_more n) (ap (λ k. put (a + k) n (put_all a (below n) f)) (sym (length-below n)) ∙ put-more a (below n) f n)
