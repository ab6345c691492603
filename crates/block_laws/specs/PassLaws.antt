-- Laws: the steps of the two passes, group by group.
use Rattle.std.specs.Prelude.{◌≡◌, refl, Bool, true, false, ◌⊎◌, List, ℕ, suc, ◌+◌, ◌-◌, ◌*◌, ◌<◌, ◌≤◌, length, get_or, set, take, drop}
use Rattle.std.proofs.Math.Path.{sym}
use Rattle.std.proofs.Common.{ap, ◌∙◌, subst, true≢false, inl, inr, suc-mul, mul-le-mul_right, add-mul as nat-add-mul, arith, length-take, length-drop, get_or-set_same, get_or-set_other, get_or-take, get_or-drop}
use Rattle.std.proofs.Math.Decide.{ℕ_discrete, dec_lt}
use Rattle.counting.specs.Count.{count_below}
use Rattle.counting.specs.CountLaws.{count_next}
use Rattle.binary_field.specs.Product.{product}
use Rattle.binary_field.specs.ProductLaws.{product-comm}
use Rattle.binary_field.specs.SumLaws.{sum-ext}
use Rattle.shape.specs.Shapes.{byte_limits}
use Rattle.code.specs.Marks.{lost, lost_in}
use Rattle.code.specs.Stretch.{stretch, with_stretch}
use Rattle.code.specs.StretchLaws.{with-length, with-inside, stretch-with, stretch-ext, stretch-count}
use Rattle.code.specs.Limits.{GoodIn}
use Rattle.code.specs.LimitsLaws.{places-most}
use Rattle.byte_edition.specs.Edition.{byte_edition}
use Rattle.block_constants.specs.Reduced.{dot, ReducedTo}
use Rattle.block_constants.specs.ReducedLaws.{dot-ext}
use Rattle.block_sums.specs.Sums.{block_sum, Named, ZeroUntil, Aimed, SumsWritten}
use Rattle.code_engine.specs.PositionsLaws.{lost-below}
use Rattle.block_laws.specs.Group.{check_of, masked, AgreesIn, Mendable, StandsFor}
use Rattle.block_laws.specs.GroupLaws.{stands, gives, mendable, mended, agrees-fills}
use Rattle.block_laws.specs.Steps.{Given, Limit, place_symbol, AcrossPut, AcrossUpTo, GroupKept, KeptUpTo, Targets, GroupFilled, GroupsFilled}
use Rattle.block_laws.specs.StepsLaws.{limit-none, mul-within, size_small, row_inside, add-mul, other-stretch}

-- the sum of the blocks of a group is that of its symbols
pub sum-dot : (size : ℕ) (blocks : List ℕ) (first w : ℕ) (constants : List ℕ) (i x : ℕ) (a : ℕ → ℕ) → ((j : ℕ) → j < w → get_or constants (i * w + j) 0 ≡ a j)
    → block_sum size blocks first w constants i x ≡ dot byte_edition w (λ j. place_symbol size blocks x (first + j)) a
unfolding block_sum dot
sum-dot size blocks first w constants i x a e =
    sum-ext w _ _ (λ j l. ap (λ k. product 8 285 k (get_or blocks ((first + j) * size + x) 0)) (e j l) ∙ product-comm 8 285 (a j) _)

pub stands-ext : (w c g : ℕ) (bound : List ℕ) (i : ℕ) (a b : ℕ → ℕ) → ((j : ℕ) → j < w → a j ≡ b j) → StandsFor w c g bound i a → StandsFor w c g bound i b
stands-ext w c g bound i a b e A = record {
  none = λ j l k. sym (e j l) ∙ A.none j l k;
  sum = λ v y F. A.sum v y F ∙ dot-ext byte_edition w v v a b (λ _ _. refl) e;
}

-- a place that no sum is written to stays
pub sums-stay : (size : ℕ) (blocks : List ℕ) (first count rows : ℕ) (constants to after : List ℕ) → SumsWritten size blocks first count rows constants to after
    → (p x : ℕ) → x < size → ((i : ℕ) → i < rows → get_or to i 0 ≡ p → ⊥) → place_symbol size after x p ≡ place_symbol size blocks x p
sums-stay size blocks first count rows constants to after W p x l n = W.other (p * size + x) (λ i h. side (get_or to i 0) (n i h))
  where
    side : (q : ℕ) → (q ≡ p → ⊥) → (p * size + x < q * size) ⊎ ((q + 1) * size ≤ p * size + x)
    side q d = elim (dec_lt p q) [
      | yes b ↦ (let k = row_inside p q size b in inl (omega arith))
      | no b ↦
          (let k = row_inside q p size (above q p d b) in
          let e : (q + 1) * size ≡ q * size + size = add-mul q size in
          inr (omega arith))
    ]
      where
        above : (q p : ℕ) → (q ≡ p → ⊥) → ¬ (p < q) → q < p
        above q p d b = elim (dec_lt q p) [
          | yes h ↦ h
          | no h ↦ absurd (d (omega arith))
        ]

module _ (w c g : ℕ) (wide : 1 ≤ w) (narrow : w ≤ 16) (bound : List ℕ) (checks : c ≤ 4) (within : lost_in w bound 0 ≤ c) (size : ℕ) (blocks : List ℕ)
    (small : (i : ℕ) → get_or blocks i 0 < 256) where
  abbrev v : ℕ → ℕ → ℕ
  v x j = place_symbol size blocks x (g * w + j)

  -- a group that has lost c places can be mended in every word
  pub group-all : lost_in w bound 0 ≡ c → (limit : ℕ) → Limit limit limit (λ x. Mendable w c g bound (λ j. place_symbol size blocks x (g * w + j)))
  group-all e limit = limit-none limit _ (λ x l.
      mendable w c g wide narrow bound (omega arith) (v x) (λ j. small _) checks within (λ _ _. 0) (λ k h b. absurd (omega arith))
      (λ k h b. absurd (omega arith)))

  module _ (M : ℕ → ℕ → ℕ) (R : ReducedTo byte_edition w 6 bound w (lost_in w bound 0) (check_of c g) M) (constants : List ℕ) where
    -- the words below the limit that can be mended
    pub group-limit : ((r : ℕ) → r < c - lost_in w bound 0 → (j : ℕ) → j < w → get_or constants (r * w + j) 0 ≡ masked bound (M (lost_in w bound 0 + r)) j)
        → (limit r : ℕ) → ZeroUntil size blocks (g * w) w (c - lost_in w bound 0) constants limit r
        → Limit limit r (λ x. Mendable w c g bound (λ j. place_symbol size blocks x (g * w + j)))
    group-limit packed limit r Z = record {
      most = Z.most;
      holds = λ x l.
          mendable w c g wide narrow bound (omega arith) (v x) (λ j. small _) checks within rows stand (λ e h b.
          sym (row e h b x) ∙ Z.zero x l (e - lost_in w bound 0) (omega arith));
      stops = λ l q.
          Z.stop l (λ i h.
          let e : lost_in w bound 0 + i - lost_in w bound 0 ≡ i = omega arith in
          ap (λ k. block_sum size blocks (g * w) w constants k r) (sym e) ∙ row (lost_in w bound 0 + i) (omega arith) (omega arith) r
          ∙ mended w c g wide narrow bound (omega arith) (v r) (λ j. small _) checks within rows stand q (lost_in w bound 0 + i) (omega arith) (omega arith));
    }
      where
        rows : ℕ → ℕ → ℕ
        rows e = masked bound (M e)

        stand : (e : ℕ) → lost_in w bound 0 ≤ e → e < c → StandsFor w c g bound e (rows e)
        stand e h b = stands w c g bound M R e h (omega arith)

        row : (e : ℕ) → lost_in w bound 0 ≤ e → e < c → (x : ℕ) → block_sum size blocks (g * w) w constants (e - lost_in w bound 0) x
            ≡ dot byte_edition w (v x) (rows e)
        row e h b x =
            let k : lost_in w bound 0 + (e - lost_in w bound 0) ≡ e = omega arith in
            sum-dot size blocks (g * w) w constants (e - lost_in w bound 0) x (rows e)
            (λ j l. packed (e - lost_in w bound 0) (omega arith) j l ∙ ap (λ i. masked bound (M i) j) k)

    -- the same, with the number of bound places under another name
    pub group-limit-at : (t : ℕ) → t ≡ lost_in w bound 0 → ((r : ℕ) → r < c - t → (j : ℕ) → j < w → get_or constants (r * w + j) 0 ≡ masked bound (M (t + r)) j)
        → (limit r : ℕ) → ZeroUntil size blocks (g * w) w (c - t) constants limit r
        → Limit limit r (λ x. Mendable w c g bound (λ j. place_symbol size blocks x (g * w + j)))
    group-limit-at t e =
        subst (λ t. ((r : ℕ) → r < c - t → (j : ℕ) → j < w → get_or constants (r * w + j) 0 ≡ masked bound (M (t + r)) j)
        → (limit r : ℕ) → ZeroUntil size blocks (g * w) w (c - t) constants limit r
        → Limit limit r (λ x. Mendable w c g bound (λ j. place_symbol size blocks x (g * w + j)))) (sym e) group-limit

    -- ---- the second pass
    module _ (to after : List ℕ) (packed : (r : ℕ) → r < lost_in w bound 0 → (j : ℕ) → j < w → get_or constants (r * w + j) 0 ≡ masked bound (M r) j)
        (T : Targets (g * w) bound to w (lost_in w bound 0)) where
      module _ (W : SumsWritten size blocks (g * w) w (lost_in w bound 0) constants to after) where
        pub group-filled : GroupFilled w c size g bound blocks after
        group-filled = record {
          long = W.long;
          here = λ x l y A j h. go x l y A j h (lost bound j) refl;
          other = λ p x l n. stay p x l (λ i h e. let t = T.each i h in n t.0 t.1 (sym e ∙ t.3));
        }
          where
            stay : (p x : ℕ) → x < size → ((i : ℕ) → i < lost_in w bound 0 → get_or to i 0 ≡ p → ⊥) → place_symbol size after x p ≡ place_symbol size blocks x p
            stay = sums-stay size blocks (g * w) w (lost_in w bound 0) constants to after W

            go : (x : ℕ) → x < size → (y : ℕ → ℕ) → AgreesIn w c g bound (v x) y → (j : ℕ) → j < w → (b : Bool) → lost bound j ≡ b
                → place_symbol size after x (g * w + j) ≡ y j
            go x l y A j h false e =
                stay (g * w + j) x l (λ i b q.
                let t = T.each i b in
                let s : t.0 ≡ j = (let z : g * w + t.0 ≡ g * w + j = sym t.3 ∙ q in omega arith) in
                true≢false (sym t.2 ∙ ap (lost bound) s ∙ e))
                ∙ sym (A.same j h e)
            go x l y A j h true e =
                let r : ℕ = count_below j (lost bound) in
                let few : r < lost_in w bound 0 = (let z = count_next j w (lost bound) h e in let q = R.count in omega arith) in
                let o : get_or to r 0 ≡ g * w + j = T.own j h e in
                ap (λ p. place_symbol size after x p) (sym o)
                ∙ W.here r few (λ k a b q.
                let t = T.each k b in
                let s : t.0 ≡ j = (let z : g * w + t.0 ≡ g * w + j = sym t.3 ∙ q ∙ o in omega arith) in
                let u : k ≡ r = sym t.4 ∙ ap (λ i. count_below i (lost bound)) s in
                omega arith) x l
                ∙ sum-dot size blocks (g * w) w constants r x (masked bound (M r)) (packed r few)
                ∙ sym ((gives w c g bound M R j h e (omega arith)).sum (v x) y (agrees-fills w c g bound (v x) y within A))

-- the targets lie within the blocks
pub aimed-at : (w g : ℕ) (bound : List ℕ) (size : ℕ) (blocks to : List ℕ) (t : ℕ) → t ≡ lost_in w bound 0 → Targets (g * w) bound to w (lost_in w bound 0)
    → (g * w + w) * size ≤ length blocks → Aimed size blocks t to
aimed-at w g bound size blocks to t e T fits = record {
  inside = λ i l.
      let q = T.each i (omega arith) in
      let z : get_or to i 0 ≡ g * w + q.0 = q.3 in
      let k : q.0 < w = q.1 in
      let h : (get_or to i 0 + 1) * size ≤ (g * w + w) * size = mul-le-mul_right size (omega arith) in
      omega arith;
}

-- the same, with the number of bound places under another name
pub group-filled-at : (w c g : ℕ) → 1 ≤ w → w ≤ 16 → (bound : List ℕ) → c ≤ 4 → lost_in w bound 0 ≤ c → (size : ℕ) (blocks : List ℕ)
    → ((i : ℕ) → get_or blocks i 0 < 256)
    → (M : ℕ → ℕ → ℕ) → ReducedTo byte_edition w 6 bound w (lost_in w bound 0) (check_of c g) M → (constants to after : List ℕ) (t : ℕ) → t ≡ lost_in w bound 0
    → ((r : ℕ) → r < t → (j : ℕ) → j < w → get_or constants (r * w + j) 0 ≡ masked bound (M r) j) → Targets (g * w) bound to w (lost_in w bound 0)
    → SumsWritten size blocks (g * w) w t constants to after → GroupFilled w c size g bound blocks after
group-filled-at w c g wide narrow bound checks within size blocks small M R constants to after t e packed T W =
    group-filled w c g wide narrow bound checks within size blocks small M R constants to after
    (λ r l j h. packed r (omega arith) j h) T
    (subst (λ n. SumsWritten size blocks (g * w) w n constants to after) e W)

-- no place is bound: nothing is to be done
pub group-whole : (w c size g : ℕ) (bound blocks : List ℕ) → lost_in w bound 0 ≡ 0 → ((j : ℕ) → j < w → lost bound j ≡ false)
    → GroupFilled w c size g bound blocks blocks
group-whole w c size g bound blocks e none = record { long = refl; here = λ x l y A j h. sym (A.same j h (none j h)); other = λ p x l n. refl }

-- ---- group after group
module _ (w c size g : ℕ) (bound before middle after : List ℕ) where
  pub groups-more : GroupsFilled w c size g bound before middle → GroupFilled w c size g (stretch w g bound) middle after
      → GroupsFilled w c size (g + 1) bound before after
  groups-more S F = record {
    long = F.long ∙ S.long;
    here = λ h l x b y A j k. elim (ℕ_discrete h g) [
      | yes q ↦ own h q x b y A j k
      | no q ↦
          (F.other (h * w + j) x b (λ i a z. let r = row_inside h g w (omega arith) in omega arith) ∙ S.here h (omega arith) x b y A j k)
    ];
    other = λ p x b l.
        let n : (g + 1) * w ≡ g * w + w = next in
        F.other p x b (λ i a z. omega arith) ∙ S.other p x b (omega arith);
  }
    where
      next : (g + 1) * w ≡ g * w + w
      next = let e : g + 1 ≡ suc g = omega arith in ap (λ k. k * w) e ∙ suc-mul g w

      own : (h : ℕ) → h ≡ g → (x : ℕ) → x < size → (y : ℕ → ℕ) → AgreesIn w c h (stretch w h bound) (λ j. place_symbol size before x (h * w + j)) y
          → (j : ℕ) → j < w → place_symbol size after x (h * w + j) ≡ y j
      own h q x b y A j k =
          ap (λ i. place_symbol size after x (i * w + j)) q
          ∙ F.here x b y (moved (subst (λ i. AgreesIn w c i (stretch w i bound) (λ j. place_symbol size before x (i * w + j)) y) q A)) j k
        where
          moved : AgreesIn w c g (stretch w g bound) (λ j. place_symbol size before x (g * w + j)) y
              → AgreesIn w c g (stretch w g bound) (λ j. place_symbol size middle x (g * w + j)) y
          moved A = record { small = A.small; same = λ i a e. A.same i a e ∙ sym (S.other (g * w + i) x b (omega arith)); meets = A.meets }

-- ---- the rows across
module _ (m w c g : ℕ) (bound before after : List ℕ) (less : g < m) where
  pub across-more : AcrossUpTo m w c g bound before → AcrossPut m w c g (stretch w g bound) before after → ((i : ℕ) → get_or after i 0 < 256)
      → AcrossUpTo m w c (g + 1) bound after
  across-more S P small = record {
    small = small;
    long = P.long ∙ S.long;
    first = λ h l. elim (ℕ_discrete h g) [
      | yes q ↦ subst (λ i. StandsFor w c i (stretch w i bound) 4 (λ j. get_or after (i * w + j) 0)) (sym q) P.first
      | no q ↦ stands-ext w c h (stretch w h bound) 4 _ _ (λ j b. sym (P.other h j q (λ z. omega arith) b)) (S.first h (omega arith))
    ];
    second = λ h l. elim (ℕ_discrete h g) [
      | yes q ↦ subst (λ i. StandsFor w c i (stretch w i bound) 5 (λ j. get_or after ((m + i) * w + j) 0)) (sym q) P.second
      | no q ↦ stands-ext w c h (stretch w h bound) 5 _ _ (λ j b. sym (P.other (m + h) j (λ z. omega arith) (λ z. q (omega arith)) b))
          (S.second h (omega arith))
    ];
  }

-- the parts of the rows, written one after the other
module _ (m w c g : ℕ) (bound : List ℕ) (M : ℕ → ℕ → ℕ) (R : ReducedTo byte_edition w 6 bound w (lost_in w bound 0) (check_of c g) M) (few : lost_in w bound 0 ≤ 4)
    (before a b : List ℕ) (some : 1 ≤ m) (fits : suc g * w ≤ length before) (fits' : suc (m + g) * w ≤ length before) (long-a : length a ≡ w)
    (long-b : length b ≡ w)
    (first : (j : ℕ) → j < w → get_or a j 0 ≡ masked bound (M 4) j) (second : (j : ℕ) → j < w → get_or b j 0 ≡ masked bound (M 5) j) where
  middle : List ℕ
  middle = with_stretch w g before a

  middle-long : length middle ≡ length before
  unfolding middle
  middle-long = with-length w g before fits a long-a

  fits'' : suc (m + g) * w ≤ length middle
  fits'' = subst (λ n. suc (m + g) * w ≤ n) (sym middle-long) fits'

  pub across-put : AcrossPut m w c g bound before (with_stretch w (m + g) (with_stretch w g before a) b)
  unfolding middle
  across-put = record {
    long = with-length w (m + g) middle fits'' b long-b ∙ middle-long;
    first = stands-ext w c g bound 4 _ _ (λ j l.
        sym (other-stretch w (m + g) middle b fits'' long-b g j (λ q. omega arith) l ∙ with-inside w g before fits a long-a j l ∙ first j l))
        (stands w c g bound M R 4 (omega arith) (omega arith));
    second = stands-ext w c g bound 5 _ _ (λ j l. sym (with-inside w (m + g) middle fits'' b long-b j l ∙ second j l))
        (stands w c g bound M R 5 (omega arith) (omega arith));
    other = λ k j n n' l. other-stretch w (m + g) middle b fits'' long-b k j n' l ∙ other-stretch w g before a fits long-a k j n l;
  }

-- ---- the rows that are kept
pub kept_more : (w c g : ℕ) (bound before part : List ℕ) → suc g * (4 * w) ≤ length before → KeptUpTo w c g bound before
    → GroupKept w c g (stretch w g bound) part → KeptUpTo w c (g + 1) bound (with_stretch (4 * w) g before part)
kept_more w c g bound before part fits S P = record {
  long = same ∙ S.long;
  here = λ h l. elim (ℕ_discrete h g) [
    | yes q ↦
        subst (λ i. GroupKept w c i (stretch w i bound) (stretch (4 * w) i after)) (sym q)
        (subst (GroupKept w c g (stretch w g bound)) (sym (stretch-with (4 * w) g before part fits P.long)) P)
    | no q ↦
        subst (GroupKept w c h (stretch w h bound))
        (sym (stretch-ext (4 * w) h after before same (λ j b. other-stretch (4 * w) g before part fits P.long h j q b))) (S.here h (omega arith))
  ];
}
  where
    after : List ℕ
    after = with_stretch (4 * w) g before part

    same : length after ≡ length before
    same = with-length (4 * w) g before fits part P.long

-- n rows from row t on lie within the part
pub kept-end : (w : ℕ) (part : List ℕ) → length part ≡ 4 * w → (t n : ℕ) → t + n ≤ 4 → t * w + n * w ≤ length part
kept-end w part long t n few = let i : (t + n) * w ≤ 4 * w = mul-le-mul_right w few in let d = nat-add-mul t n w in omega arith

pub kept-laid : (w : ℕ) (part : List ℕ) → length part ≡ 4 * w → (t n : ℕ) → t + n ≤ 4
    → n * w ≤ length (take (t * w + n * w - t * w) (drop (t * w) part))
kept-laid w part long t n few =
    let i = kept-end w part long t n few in
    omega (arith, length-take (t * w + n * w - t * w) (drop (t * w) part), length-drop (t * w) part)

-- the part of group g lies within 960 bytes
pub kept-inside : (m w c g : ℕ) → GoodIn byte_limits m w c → g < m → g * (4 * w) + 4 * w ≤ 960
kept-inside m w c g G l = let a = row_inside g m (4 * w) l in let b = mul-within m (4 * w) 15 64 (omega arith) (omega arith) in omega arith

-- the parts of group g of m: its places, and its rows that are kept
pub record PartsFit (m w g : ℕ) : Type 0 where
  pub own : g * w + w ≤ m * w
  pub places : m * w ≤ 240
  pub rows : g * (4 * w) + 4 * w ≤ 960

pub parts-fit : (m w c g : ℕ) → GoodIn byte_limits m w c → g < m → PartsFit m w g
parts-fit m w c g G l = record { own = row_inside g m w l; places = places-most G; rows = kept-inside m w c g G l }

-- the rows of a group from row t on, and where the group starts
pub record RowsFit (w c g t : ℕ) : Type 0 where
  pub first : t * w ≤ 64
  pub later : (c - t) * w ≤ 64
  pub start : g * w ≤ 240

pub rows_fit : (w c g t : ℕ) → w ≤ 16 → t ≤ 4 → c ≤ 4 → g < 15 → RowsFit w c g t
rows_fit w c g t narrow few checks groups = record {
  first = mul-within t w 4 16 few narrow;
  later = mul-within (c - t) w 4 16 (omega arith) narrow;
  start = mul-within g w 15 16 (omega arith) narrow;
}

-- the blocks of group g and rows of constants for them are there
pub group-named : (w g size rows : ℕ) (blocks constants : List ℕ) → 1 ≤ w → w ≤ 16 → (g * w + w) * size ≤ length blocks → length blocks ≤ 65536 → rows ≤ 4
    → rows * w ≤ length constants → Named size blocks (g * w) w rows constants
group-named w g size rows blocks constants wide narrow inside most few laid = record {
  inside = inside;
  most = most;
  small = size_small (g * w + w) size (length blocks) (omega arith) inside most;
  few = omega arith;
  rows_few = few;
  laid = laid;
}

-- the rows from row t on
pub kept_from : (w c g : ℕ) (bound part : List ℕ) (P : GroupKept w c g bound part) (t n : ℕ) → t + n ≤ 4 → (r : ℕ) → r < n → (j : ℕ) → j < w
    → get_or (take (t * w + n * w - t * w) (drop (t * w) part)) (r * w + j) 0 ≡ masked bound (P.rows (t + r)) j
kept_from w c g bound part P t n few r l j h =
    let i = row_inside r n w l in
    let e : t * w + (r * w + j) ≡ (t + r) * w + j = (let d = nat-add-mul t r w in omega arith) in
    get_or-take (t * w + n * w - t * w) (drop (t * w) part) (r * w + j) 0 (omega arith)
    ∙ get_or-drop (t * w) part (r * w + j) 0
    ∙ ap (λ i. get_or part i 0) e ∙ P.here (t + r) (omega arith) j h

-- ---- the targets
module _ (base : ℕ) (bound to : List ℕ) (j : ℕ) where
  pub targets-none : Targets base bound to 0 0
  targets-none = record { own = λ q l. absurd (omega arith); each = λ i l. absurd (omega arith) }

  pub targets-past : (n : ℕ) → lost bound j ≡ false → Targets base bound to j n → Targets base bound to (j + 1) n
  targets-past n e T = record {
    own = λ q l f. elim (ℕ_discrete q j) [
      | yes d ↦ absurd (true≢false (sym f ∙ ap (lost bound) d ∙ e))
      | no d ↦ T.own q (omega arith) f
    ];
    each = λ i l. let t = T.each i l in (t.0, (let b = t.1 in omega arith), t.2, t.3, t.4);
  }

  pub targets_next : (n : ℕ) → n ≡ count_below j (lost bound) → n < length to → lost bound j ≡ true → Targets base bound to j n
      → Targets base bound (set to n (base + j)) (j + 1) (n + 1)
  targets_next n e h f T = record {
    own = λ q l k. elim (ℕ_discrete q j) [
      | yes d ↦ (ap (λ i. get_or (set to n (base + j)) i 0) (ap (λ i. count_below i (lost bound)) d ∙ sym e) ∙ here ∙ ap (λ i. base + i) (sym d))
      | no d ↦
          (let z = count_next q j (lost bound) (omega arith) k in
          get_or-set_other to n (count_below q (lost bound)) (base + j) 0 (λ w. omega arith) ∙ T.own q (omega arith) k)
    ];
    each = λ i l. elim (ℕ_discrete i n) [
      | yes d ↦ (j, omega arith, f, ap (λ i. get_or (set to n (base + j)) i 0) d ∙ here, sym e ∙ sym d)
      | no d ↦
          (let t = T.each i (omega arith) in
          (t.0, (let b = t.1 in omega arith), t.2, get_or-set_other to n i (base + j) 0 d ∙ t.3, t.4))
    ];
  }
    where
      here : get_or (set to n (base + j)) n 0 ≡ base + j
      here = get_or-set_same to n (base + j) 0 h

-- ---- what a group is lent
pub given-end : (m w c size g : ℕ) (blocks bound : List ℕ) → Given m w c size blocks bound → g < m → (suc g * w ≤ length bound)
    × ((g * w + w) * size ≤ length blocks)
given-end m w c size g blocks bound G l =
    let e = G.bound-size in
    let f = G.blocks-size in
    let k : suc g * w ≤ m * w = mul-le-mul_right w l in
    let s = suc-mul g w in
    let h : (g * w + w) * size ≤ m * w * size = mul-le-mul_right size (omega arith) in
    (omega arith, omega arith)

pub given-few : (m w c size g : ℕ) (blocks bound : List ℕ) → Given m w c size blocks bound → g < m → lost_in w (stretch w g bound) 0 ≤ c
given-few m w c size g blocks bound G l = subst (λ n. n ≤ c) (sym (stretch-count w g bound)) (G.few g l)

-- where no place is bound, none is lost
pub none-lost : (w : ℕ) (bound : List ℕ) → lost_in w bound 0 ≡ 0 → (j : ℕ) → j < w → lost bound j ≡ false
none-lost w bound e j l = go (lost bound j) refl
  where
    go : (b : Bool) → lost bound j ≡ b → lost bound j ≡ false
    go false f = f
    go true f = let z = count_next j w (lost bound) l f in let q = lost-below bound w in absurd (omega arith)
