-- The ranked readings: the same readings as those of the hole, in rising order, from which the hole is read back.
use Rattle.std.proofs.Common.{◌≡◌, ℕ, zero, suc, ◌+◌, ◌<◌, ◌≤◌, Bool, true, false, cond, ◌&&◌, eqb, List, [], ◌∷◌, ◌++◌, map, length, take, drop, ℤ, ◌≤ℤ◌, sum_by, filter, sym, refl, ap, ◌∙◌, subst, T, ⊎_elim, append_assoc, append-nil, one-add, arith}
use lib.Signed.{le_z, le_z_yes}
use Rattle.std.specs.List.{insert, AllByRecursion}
use Rattle.std.proofs.lemmas.List.Edits.{length-insert}
use Rattle.std.proofs.ByRecursion.{All-append, All-take, All-drop, All-weaker, All-map, all_kept_by}
use Rattle.std.proofs.lemmas.List.{length_push}
use Rattle.std.proofs.lemmas.Int.{ints}
use Rattle.std.proofs.lemmas.List.Sums.{sum_by-cons, sum_by-append, sum_by_push, sum_by-take-drop, prefix_len-le-length}
use Rattle.std.proofs.lemmas.Bool.{cases_Bool, true≢false, false≢true, eq-eqb, ne_eqb, eqb-true, and_parts, and_from}
use Rattle.charges.specs.Rules.{segment}
use Rattle.readings.proofs.Segments.{segment_none, segment-push}
use Rattle.readings.proofs.Ranges.{both_int_le, int_le-itself}
use Rattle.medians.specs.declared.place.Place.{Place}
use Rattle.medians.specs.Ranks.{place, rank, ranked_with, ranked_from, ranked, reading_at, readings_upto, readings_of, same_places, in_rank}
use Rattle.medians.specs.Walks.{in_segment_lem, picked}
use Rattle.medians.proofs.Rising.{Rising}
use Rattle.medians.proofs.Middles.{Same}

-- ---- one reading more

push_ind_from : (P : List ℤ → Type 0) → ((h : List ℤ) (x : ℤ) → P h → P (h ++ (x ∷ []))) → (h rest : List ℤ) → P h → P (h ++ rest)
push_ind_from P more h [] p = subst P (sym (append-nil h)) p
push_ind_from P more h (x ∷ xs) p = subst P (append_assoc h (x ∷ []) xs) (push_ind_from P more (h ++ (x ∷ [])) xs (more h x p))

pub push_ind : (P : List ℤ → Type 0) → P [] → ((h : List ℤ) (x : ℤ) → P h → P (h ++ (x ∷ []))) → (h : List ℤ) → P h
push_ind P none more h = push_ind_from P more [] h none

ranked_from-push : (n : ℕ) (ps : List Place) (h : List ℤ) (x : ℤ) → ranked_from n ps (h ++ (x ∷ [])) ≡ ranked_with (place x (n + length h)) (ranked_from n ps h)
unfolding ranked_from
ranked_from-push n ps [] x = let e : n + 0 ≡ n = omega arith in rw e
ranked_from-push n ps (y ∷ ys) x =
    let e : n + suc (length ys) ≡ suc n + length ys = omega arith in
    rw e (ranked_from-push (suc n) (ranked_with (place y n) ps) ys x)

pub ranked-push : (h : List ℤ) (x : ℤ) → ranked (h ++ (x ∷ [])) ≡ ranked_with (place x (length h)) (ranked h)
ranked-push h x = let e : 0 + length h ≡ length h = omega arith in rw e at (ranked_from-push 0 [] h x)

ranked_none : ranked [] ≡ []
unfolding ranked_from
ranked_none = refl

pub rank-within : (x : ℤ) (ps : List Place) → rank x ps ≤ length ps
rank-within x ps = prefix_len-le-length (λ p. le_z p.reading x) ps

pub length-ranked : (h : List ℤ) → length (ranked h) ≡ length h
length-ranked = push_ind (λ h. length (ranked h) ≡ length h) (ap length ranked_none) more
  where
    more : (h : List ℤ) (x : ℤ) → length (ranked h) ≡ length h → length (ranked (h ++ (x ∷ []))) ≡ length (h ++ (x ∷ []))
    more h x e = ap length (ranked-push h x) ∙ (length-insert (ranked h) (rank x (ranked h)) (place x (length h)) (rank-within x (ranked h)) ∙ (ap (λ n. n + 1) e ∙ sym (length_push h x)))

-- what holds of each place still does with one more
all_ranked_with : (P : Place → Type 0) (p : Place) (ps : List Place) → P p → AllByRecursion P ps → AllByRecursion P (ranked_with p ps)
all_ranked_with P p ps h a = All-append P (take (rank p.reading ps) ps) (p ∷ drop (rank p.reading ps) ps) (All-take P (rank p.reading ps) ps a) (h, All-drop P (rank p.reading ps) ps a)

sum-ranked_with : (f : Place → ℕ) (p : Place) (ps : List Place) → sum_by f (ranked_with p ps) ≡ f p + sum_by f ps
sum-ranked_with f p ps =
    let i = rank p.reading ps in
    omega (arith, sum_by-append f (take i ps) (p ∷ drop i ps), sum_by-cons f p (drop i ps), sum_by-take-drop f ps i)

-- the places are those of the readings so far
pub ranked-below : (h : List ℤ) → AllByRecursion (λ p. p.at < length h) (ranked h)
ranked-below = push_ind (λ h. AllByRecursion (λ p. p.at < length h) (ranked h)) (subst (AllByRecursion (λ p. p.at < 0)) (sym ranked_none) tt) more
  where
    more : (h : List ℤ) (x : ℤ) → AllByRecursion (λ p. p.at < length h) (ranked h) → AllByRecursion (λ p. p.at < length (h ++ (x ∷ []))) (ranked (h ++ (x ∷ [])))
    more h x a =
        let P : Place → Type 0 = λ p. p.at < length (h ++ (x ∷ [])) in
        let n = length_push h x in
        subst (AllByRecursion P) (sym (ranked-push h x))
        (all_ranked_with P (place x (length h)) (ranked h) (omega arith) (All-weaker (λ p. p.at < length h) P (λ p l. omega arith) (ranked h) a))

-- each place passes a test if each reading does
pub all_ranked : (P : ℤ → Type 0) (h : List ℤ) → AllByRecursion P h → AllByRecursion (λ p. P p.reading) (ranked h)
unfolding ranked_from
all_ranked P h = from 0 [] h tt
  where
    from : (n : ℕ) (ps : List Place) (h : List ℤ) → AllByRecursion (λ p. P p.reading) ps → AllByRecursion P h → AllByRecursion (λ p. P p.reading) (ranked_from n ps h)
    from n ps [] a b = a
    from n ps (x ∷ xs) a b = from (suc n) (ranked_with (place x n) ps) xs (all_ranked_with (λ p. P p.reading) (place x n) ps b.0 a) b.1

-- ---- the hole is read back

at_other : (k i : ℕ) (p : Place) (ps : List Place) → eqb p.at k ≡ false → reading_at k (take i ps ++ (p ∷ drop i ps)) ≡ reading_at k ps
at_other k zero p ps h = rw h
at_other k (suc i) p [] h = rw h
at_other k (suc i) p (q ∷ qs) h = ap (cond (eqb q.at k) q.reading) (at_other k i p qs h)

at_itself : (k i : ℕ) (p : Place) (ps : List Place) → eqb p.at k ≡ true → AllByRecursion (λ q. eqb q.at k ≡ false) ps → reading_at k (take i ps ++ (p ∷ drop i ps)) ≡ p.reading
at_itself k zero p ps h a = rw h
at_itself k (suc i) p [] h a = rw h
at_itself k (suc i) p (q ∷ qs) h a = let no = a.0 in rw no (at_itself k i p qs h a.1)

upto_other : (n i : ℕ) (p : Place) (ps : List Place) → n ≤ p.at → readings_upto n (take i ps ++ (p ∷ drop i ps)) ≡ readings_upto n ps
unfolding readings_upto
upto_other zero i p ps h = refl
upto_other (suc n) i p ps h =
    let a = upto_other n i p ps (omega arith) in
    let b = at_other n i p ps (ne_eqb p.at n (λ e. omega arith)) in
    ap (λ l. l ++ (reading_at n (take i ps ++ (p ∷ drop i ps)) ∷ [])) a ∙ ap (λ r. readings_upto n ps ++ (r ∷ [])) b

readings_more : (n : ℕ) (x : ℤ) (ps : List Place) → AllByRecursion (λ q. q.at < n) ps → readings_upto (suc n) (ranked_with (place x n) ps) ≡ readings_upto n ps ++ (x ∷ [])
unfolding readings_upto
readings_more n x ps a =
    let i = rank x ps in
    let p = place x n in
    let b = upto_other n i p ps (omega arith) in
    let c = at_itself n i p ps (eq-eqb n n refl) (All-weaker (λ q. q.at < n) (λ q. eqb q.at n ≡ false) (λ q l. ne_eqb q.at n (λ e. omega arith)) ps a) in
    ap (λ l. l ++ (reading_at n (take i ps ++ (p ∷ drop i ps)) ∷ [])) b ∙ ap (λ r. readings_upto n ps ++ (r ∷ [])) c

readings-ranked : (h : List ℤ) → readings_upto (length h) (ranked h) ≡ h
unfolding readings_upto
readings-ranked = push_ind (λ h. readings_upto (length h) (ranked h) ≡ h) start more
  where
    start : readings_upto 0 (ranked []) ≡ []
    start = refl

    more : (h : List ℤ) (x : ℤ) → readings_upto (length h) (ranked h) ≡ h → readings_upto (length (h ++ (x ∷ []))) (ranked (h ++ (x ∷ []))) ≡ h ++ (x ∷ [])
    more h x e =
        let n : length (h ++ (x ∷ [])) ≡ suc (length h) = omega (arith, length_push h x) in
        ap (λ k. readings_upto k (ranked (h ++ (x ∷ [])))) n ∙ (ap (readings_upto (suc (length h))) (ranked-push h x) ∙ (readings_more (length h) x (ranked h) (ranked-below h) ∙ ap (λ l. l ++ (x ∷ [])) e))

pub length-readings : (n : ℕ) (ps : List Place) → length (readings_upto n ps) ≡ n
unfolding readings_upto
length-readings zero ps = refl
length-readings (suc n) ps = omega (arith, length_push (readings_upto n ps) (reading_at n ps), length-readings n ps)

pub readings_of-ranked : (h : List ℤ) → readings_of (ranked h) ≡ h
readings_of-ranked h = ap (λ n. readings_upto n (ranked h)) (length-ranked h) ∙ readings-ranked h

-- ---- rising order

abbrev pub readings : List Place → List ℤ
readings ps = map (λ p. p.reading) ps

all_readings : (P : ℤ → Type 0) (ps : List Place) → AllByRecursion (λ p. P p.reading) ps → AllByRecursion P (readings ps)
all_readings P ps a = All-map P (λ p. p.reading) ps a

pub readings_all : (P : ℤ → Type 0) (ps : List Place) → AllByRecursion P (readings ps) → AllByRecursion (λ p. P p.reading) ps
readings_all P [] a = tt
readings_all P (p ∷ ps) a = (a.0, readings_all P ps a.1)

with_behind_at : (b : Bool) (n : ℕ) (p q : Place) (qs : List Place) → b ≡ true → insert (q ∷ qs) (cond b (1 + n) 0) p ≡ q ∷ insert qs n p
with_behind_at true n p q qs h = rw one-add
with_behind_at false n p q qs h = absurd (false≢true h)

with_before_at : (b : Bool) (n : ℕ) (p q : Place) (qs : List Place) → b ≡ false → insert (q ∷ qs) (cond b (1 + n) 0) p ≡ p ∷ (q ∷ qs)
with_before_at true n p q qs h = absurd (true≢false h)
with_before_at false n p q qs h = refl

le_chain : (a b : ℤ) (ys : List ℤ) → a ≤ℤ b → AllByRecursion (λ y. b ≤ℤ y) ys → AllByRecursion (λ y. a ≤ℤ y) ys
le_chain a b [] h l = tt
le_chain a b (y ∷ ys) h l = (omega (arith, ints, l.0), le_chain a b ys h l.1)

int_le_gt : (a b : ℤ) → le_z a b ≡ false → b ≤ℤ a
int_le_gt a b h = grind (arith, ints)

rising_with : (p : Place) (ps : List Place) → Rising (readings ps) → Rising (readings (ranked_with p ps))
rising_with p [] r = (tt, tt)
rising_with p (q ∷ qs) r =
    let b = le_z q.reading p.reading in
    let n = rank p.reading qs in
    ⊎_elim
    (λ e. subst (λ l. Rising (readings l)) (sym (with_behind_at b n p q qs e)) (
      all_readings (λ y. q.reading ≤ℤ y) (ranked_with p qs)
          (all_ranked_with (λ x. q.reading ≤ℤ x.reading) p qs (le_z_yes (subst T (sym e) tt)) (readings_all (λ y. q.reading ≤ℤ y) qs r.0)),
      rising_with p qs r.1,
    ))
    (λ e. let le = int_le_gt _ _ e in subst (λ l. Rising (readings l)) (sym (with_before_at b n p q qs e)) ((le, le_chain p.reading q.reading (readings qs) le r.0), r))
    (cases_Bool b)

pub rising-ranked : (h : List ℤ) → Rising (readings (ranked h))
rising-ranked = push_ind (λ h. Rising (readings (ranked h))) (subst (λ l. Rising (readings l)) (sym ranked_none) tt) more
  where
    more : (h : List ℤ) (x : ℤ) → Rising (readings (ranked h)) → Rising (readings (ranked (h ++ (x ∷ []))))
    more h x r = subst (λ l. Rising (readings l)) (sym (ranked-push h x)) (rising_with (place x (length h)) (ranked h) r)

rising_kept_at : (b : Bool) (p : Place) (ps ks : List Place) → AllByRecursion (λ y. p.reading ≤ℤ y) (readings ks) → Rising (readings ks) → Rising (readings (cond b (p ∷ ks) ks))
rising_kept_at true p ps ks a r = (a, r)
rising_kept_at false p ps ks a r = r

pub rising_kept : (q : Place → Bool) (ps : List Place) → Rising (readings ps) → Rising (readings (filter q ps))
rising_kept q [] r = tt
rising_kept q (p ∷ ps) r =
    rising_kept_at (q p) p ps (filter q ps)
    (all_readings (λ y. p.reading ≤ℤ y) (filter q ps) (all_kept_by q (λ x. p.reading ≤ℤ x.reading) ps (readings_all (λ y. p.reading ≤ℤ y) ps r.0)))
    (rising_kept q ps r.1)

-- ---- the readings of a segment

sum_kept_at : (b : Bool) (g : ℤ → ℕ) (p : Place) (ks : List Place) → sum_by g (readings (cond b (p ∷ ks) ks)) ≡ cond b (g p.reading) 0 + sum_by g (readings ks)
sum_kept_at true g p ks = sum_by-cons g p.reading (readings ks)
sum_kept_at false g p ks = omega arith

sum_kept : (g : ℤ → ℕ) (q : Place → Bool) (ps : List Place) → sum_by g (readings (filter q ps)) ≡ sum_by (λ p. cond (q p) (g p.reading) 0) ps
sum_kept g q [] = refl
sum_kept g q (p ∷ ps) =
    sum_kept_at (q p) g p (filter q ps) ∙ (ap (λ n. cond (q p) (g p.reading) 0 + n) (sum_kept g q ps) ∙ sym (sum_by-cons (λ p. cond (q p) (g p.reading) 0) p ps))

module _ (s t : ℕ) (g : ℤ → ℕ) where
  abbrev counted : Place → ℕ
  counted p = cond (in_segment_lem s t p.at) (g p.reading) 0

  sum_more_at : (b : Bool) (x : ℤ) (u : List ℤ) → sum_by g (u ++ cond b (x ∷ []) []) ≡ cond b (g x) 0 + sum_by g u
  sum_more_at true x u = omega (arith, sum_by_push g u x)
  sum_more_at false x u = ap (sum_by g) (append-nil u) ∙ omega arith

  sum-segment : (h : List ℤ) → sum_by counted (ranked h) ≡ sum_by g (segment h s t)
  sum-segment = push_ind (λ h. sum_by counted (ranked h) ≡ sum_by g (segment h s t)) (ap (sum_by counted) ranked_none ∙ ap (sum_by g) (sym (segment_none s t))) more
    where
      more : (h : List ℤ) (x : ℤ) → sum_by counted (ranked h) ≡ sum_by g (segment h s t) → sum_by counted (ranked (h ++ (x ∷ []))) ≡ sum_by g (segment (h ++ (x ∷ [])) s t)
      more h x e =
          ap (sum_by counted) (ranked-push h x) ∙ (sum-ranked_with counted (place x (length h)) (ranked h) ∙ (ap (λ n. cond (in_segment_lem s t (length h)) (g x) 0 + n) e ∙ (sym (sum_more_at (in_segment_lem s t (length h)) x (segment h s t)) ∙ ap (sum_by g) (sym (segment-push h x s t)))))

pub same-picked : (h : List ℤ) (s t : ℕ) → Same (segment h s t) (picked s t (ranked h))
same-picked h s t = record { sums = λ g. sum_kept g (λ p. in_segment_lem s t p.at) (ranked h) ∙ sum-segment s t g h }

pub rising-picked : (h : List ℤ) (s t : ℕ) → Rising (picked s t (ranked h))
rising-picked h s t = rising_kept (λ p. in_segment_lem s t p.at) (ranked h) (rising-ranked h)

-- ---- places that are in rank

place_is : {a b : ℤ} {m n : ℕ} → a ≡ b → m ≡ n → place a m ≡ place b n
place_is e f = cc

places_is : (p q : Place) → p.reading ≡ q.reading → p.at ≡ q.at → p ≡ q
places_is p q e f = place_is e f

same_from_test : (ps qs : List Place) → same_places ps qs ≡ true → ps ≡ qs
same_from_test [] [] h = refl
same_from_test [] (q ∷ qs) h = absurd (false≢true h)
same_from_test (p ∷ ps) [] h = absurd (false≢true h)
same_from_test (p ∷ ps) (q ∷ qs) h =
    let one = and_parts (le_z p.reading q.reading && le_z q.reading p.reading) (eqb p.at q.at && same_places ps qs) h in
    let two = and_parts (eqb p.at q.at) (same_places ps qs) one.1 in
    let e = places_is p q (both_int_le _ _ one.0) (eqb-true _ _ two.0) in
    let f = same_from_test ps qs two.1 in
    cc

test_from_itself : (ps : List Place) → same_places ps ps ≡ true
test_from_itself [] = refl
test_from_itself (p ∷ ps) = and_from _ _ (int_le-itself p.reading) (and_from _ _ (eq-eqb p.at p.at refl) (test_from_itself ps))

pub ranked_from_test : (ps : List Place) → in_rank ps ≡ true → ranked (readings_of ps) ≡ ps
ranked_from_test ps h = same_from_test (ranked (readings_of ps)) ps h

pub test_from_ranked : (h : List ℤ) → in_rank (ranked h) ≡ true
test_from_ranked h = ap (λ l. same_places (ranked l) (ranked h)) (readings_of-ranked h) ∙ test_from_itself (ranked h)
