-- Laws of tables that lie one after the other in one list: splitting it, reading a table or an entry, storing, lending. For every store in a book. Assumes nothing.
use Prim.Native.Nat.{ℕ, zero, suc, ◌+◌, ◌<◌, ◌≤◌}
use mathlib.Core.Path.{◌≡◌, refl, sym, ap, ◌∙◌}
use mathlib.Core.List.{List, [], ◌∷◌, ◌++◌, map, append_assoc}
use native.Mathlib.Omega.{arith}
use lib.ListN.{length, get_or, take, drop, set, length-append, length-drop, length-map, length-set, get_or-map}
use lib.Seq.{take-append-add, drop-append-add, take-append_seam, drop-append_seam, drop-drop, take-add, take_all, length-take-le, get_or-take, get_or-drop, map-set_same}
use borrow.Rule.Slice.PartMut.{put_mid, set_mid_at}
use Rattle.lists.proofs.Getting.{parts_equal, map_take}
use Rattle.std.specs.Prelude.{sum}
use Rattle.std.proofs.lemmas.List.Sums.{sum_by-cons}
use Rattle.rows.specs.Regions.{flat, regions, Holds}

sum-cons : (s : ℕ) (ss : List ℕ) → sum (s ∷ ss) ≡ s + sum ss
sum-cons = sum_by-cons (λ (x : ℕ). x)

sum_part : (ss : List ℕ) (i : ℕ) → i < length ss → sum (take i ss) + get_or ss i 0 ≤ sum ss
sum_part [] i h = absurd (omega arith)
sum_part (s ∷ ss) zero h = omega (arith, sum-cons s ss)
sum_part (s ∷ ss) (suc i) h = omega (arith, sum_part ss i (omega arith), sum-cons s ss, sum-cons s (take i ss))

module _ {A : Type 0} where
  -- ---- the tables by themselves, with no list of lengths
  pub length_flat : (rs : List (List A)) → length (flat rs) ≡ sum (map length rs)
  length_flat [] = refl
  length_flat (r ∷ rs) = length-append r (flat rs) ∙ ap (λ (m : ℕ). length r + m) (length_flat rs) ∙ sym (sum-cons (length r) (map length rs))

  -- table i is lent
  lend : (rs : List (List A)) (i : ℕ) → i < length rs → take (length (get_or rs i [])) (drop (length (flat (take i rs))) (flat rs)) ≡ get_or rs i []
  lend [] i h = absurd (omega arith)
  lend (r ∷ rs) zero h = take-append_seam r (flat rs)
  lend (r ∷ rs) (suc i) h = rw (length-append, drop-append-add) (lend rs i (omega arith))

  -- and comes back as q
  back : (rs : List (List A)) (i : ℕ) (q : List A) → i < length rs
      → put_mid (length (flat (take i rs))) (length (get_or rs i [])) (flat rs) q ≡ flat (set rs i q)
  back [] i q h = absurd (omega arith)
  back (r ∷ rs) zero q h = ap (λ (l : List A). q ++ l) (drop-append_seam r (flat rs))
  back (r ∷ rs) (suc i) q h =
      rw (length-append, drop-append-add, take-append-add)
      (append_assoc r (take (length (flat (take i rs))) (flat rs)) (q ++ drop (length (get_or rs i [])) (drop (length (flat (take i rs))) (flat rs)))
      ∙ ap (λ (l : List A). r ++ l) (back rs i q (omega arith)))

  -- the list tells the tables
  pub flat_injective : (rs qs : List (List A)) → map length rs ≡ map length qs → flat rs ≡ flat qs → rs ≡ qs
  flat_injective [] [] e p = refl
  flat_injective [] (q ∷ qs) e p = absurd (omega (arith, ap length e))
  flat_injective (r ∷ rs) [] e p = absurd (omega (arith, ap length e))
  flat_injective (r ∷ rs) (q ∷ qs) e p =
      let one : length r ≡ length q = cc in
      let rest : map length rs ≡ map length qs = cc in
      let both = parts_equal r q one p in
      let tail = flat_injective rs qs rest both.1 in
      λ i. both.0 i ∷ tail i

  pub holds_once : {ss : List ℕ} {n : List A} {rs qs : List (List A)} → Holds ss n rs → Holds ss n qs → rs ≡ qs
  holds_once {rs = rs} {qs} h g = flat_injective rs qs (h.long ∙ sym g.long) (sym h.is ∙ g.is)

  pub holds_long : {ss : List ℕ} {n : List A} {rs : List (List A)} → Holds ss n rs → length n ≡ sum ss
  holds_long {rs = rs} h = ap length h.is ∙ length_flat rs ∙ ap sum h.long

  -- ---- table i of a list that holds tables; `start` and `len` are numbers, so that a caller writes literals and `refl`
  module _ {ss : List ℕ} {n : List A} {rs : List (List A)} (h : Holds ss n rs) (i : ℕ) (l : i < length ss) where
    in_rs : i < length rs
    in_rs = let c : length rs ≡ length ss = sym (length-map rs length) ∙ ap length h.long in omega arith

    starts : length (flat (take i rs)) ≡ sum (take i ss)
    starts = length_flat (take i rs) ∙ ap sum (map_take length i rs ∙ ap (take i) h.long)

    pub region_long : length (get_or rs i []) ≡ get_or ss i 0
    region_long = sym (get_or-map length rs i []) ∙ ap (λ (l : List ℕ). get_or l i 0) h.long

    module _ (start len : ℕ) (s : start ≡ sum (take i ss)) (e : len ≡ get_or ss i 0) where
      -- a part is the table
      pub region_is : take len (drop start n) ≡ get_or rs i []
      region_is = rw (h.is, s, e, ← starts, ← region_long) (lend rs i in_rs)

      pub region_fits : start + len ≤ length n
      region_fits = let g = holds_long h in omega (arith, sum_part ss i l)

      -- an entry is the table's
      pub region_read : (p k : ℕ) (d : A) → p ≡ start + k → k < len → get_or n p d ≡ get_or (get_or rs i []) k d
      region_read p k d q g =
          ap (λ (m : ℕ). get_or n m d) q
          ∙ sym (get_or-drop start n k d)
          ∙ sym (get_or-take len (drop start n) k d g)
          ∙ ap (λ (r : List A). get_or r k d) region_is

      -- a part that was lent comes back as q
      pub region_put : (q : List A) → length q ≡ len → Holds ss (put_mid start len n q) (set rs i q)
      region_put q g = record {
        is = rw (h.is, s, e, ← starts, ← region_long) (back rs i q in_rs);
        long = map-set_same length rs i q [] (g ∙ e ∙ sym region_long) ∙ h.long;
      }

      -- one store
      pub region_store : (p k : ℕ) (x : A) → p ≡ start + k → k < len → Holds ss (set n p x) (set rs i (set (get_or rs i []) k x))
      region_store p k x q g =
          let long : length (get_or rs i []) ≡ len = region_long ∙ sym e in
          let w : length (take len (drop start n)) ≡ len = ap length region_is ∙ long in
          let m : put_mid start len n (set (get_or rs i []) k x) ≡ set n p x =
          ap (λ (r : List A). put_mid start len n (set r k x)) (sym region_is)
          ∙ set_mid_at start len k n x (omega arith)
          ∙ ap (λ (j : ℕ). set n j x) (sym q) in
          let put = region_put (set (get_or rs i []) k x) (length-set (get_or rs i []) k x ∙ long) in
          record { is = sym m ∙ put.is; long = put.long }

  -- ---- a list of the right length is its tables
  flat_regions : (a : ℕ) (ss : List ℕ) (n : List A) → flat (regions a ss n) ≡ take (sum ss) (drop a n)
  flat_regions a [] n = refl
  flat_regions a (s ∷ ss) n = rw (sum-cons s ss, flat_regions (a + s) ss n, ← drop-drop) (sym (take-add s (sum ss) (drop a n)))

  long_regions : (a : ℕ) (ss : List ℕ) (n : List A) → a + sum ss ≤ length n → map length (regions a ss n) ≡ ss
  long_regions a [] n h = refl
  long_regions a (s ∷ ss) n h =
      let c = sum-cons s ss in
      rw (long_regions (a + s) ss n (omega arith)) (ap (λ (m : ℕ). m ∷ ss) (length-take-le s (drop a n) (simp length-drop (omega arith))))

  pub holds : (ss : List ℕ) (n : List A) → length n ≡ sum ss → Holds ss n (regions 0 ss n)
  holds ss n h = record { is = sym (flat_regions 0 ss n ∙ take_all (sum ss) n (omega arith)); long = long_regions 0 ss n (omega arith) }
