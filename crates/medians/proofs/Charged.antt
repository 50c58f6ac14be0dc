-- What a median charge holds and tells, from its places.
use Rattle.std.proofs.Common.{◌≡◌, ℕ, suc, ◌-◌, ◌/◌, ◌<◌, ◌≤◌, true, List, [], ◌∷◌, ◌++◌, length, get_or, ℤ, pos, sym, ap, ◌∙◌, subst, arith}
use Rattle.std.specs.List.{insert, AllByRecursion}
use Rattle.std.specs.Prelude.{Some, slice_get}
use Rattle.std.proofs.lemmas.Option.{slice_get-get_or}
use Rattle.charges.specs.Rules.{segment}
use Rattle.charges.proofs.Lawful.{all_from_pass, pass_push}
use Rattle.readings.specs.Numbers.{number_reading, all_numbers}
use Rattle.readings.proofs.Segments.{length-segment}
use Rattle.medians.specs.declared.place.Place.{Place}
use Rattle.medians.specs.Medians.{distance, distances, median}
use Rattle.medians.specs.Ranks.{place, rank, ranked_with, ranked, readings_of, in_rank}
use Rattle.medians.specs.Walks.{picked, balance}
use Rattle.medians.proofs.Rising.{Rising}
use Rattle.medians.proofs.Middles.{Same, same_length, middle, middle_of, upper, median-middle, balance-middle}
use Rattle.medians.proofs.Ranking.{length-readings, ranked-push, readings_of-ranked, ranked_from_test, test_from_ranked, same-picked, rising-picked, all_ranked}

pub length_held : (ps : List Place) → length (readings_of ps) ≡ length ps
length_held ps = length-readings (length ps) ps

module _ (ps : List Place) (order : in_rank ps ≡ true) where
  abbrev held : List ℤ
  held = readings_of ps

  ranked-held : ranked held ≡ ps
  ranked-held = ranked_from_test ps order

  pub numbers_held : all_numbers held ≡ true → AllByRecursion (λ p. number_reading p.reading ≡ true) ps
  numbers_held h = subst (AllByRecursion (λ p. number_reading p.reading ≡ true)) ranked-held (all_ranked (λ x. number_reading x ≡ true) held (all_from_pass number_reading held h))

  module _ (s t : ℕ) (low : s < t) (high : t ≤ length ps) where
    abbrev seen : List ℤ
    seen = picked s t ps

    abbrev layer : List ℤ
    layer = segment held s t

    same : Same layer seen
    same = subst (λ l. Same layer (picked s t l)) ranked-held (same-picked held s t)

    length_seen : length seen ≡ t - s
    length_seen = same_length same ∙ length-segment held s t (omega (arith, length_held ps))

    middle_seen : middle seen ≡ (t - s - 1) / 2
    middle_seen = ap (λ n. (n - 1) / 2) length_seen

    level_seen : median layer ≡ middle_of seen
    level_seen =
        median-middle seen (subst (λ l. Rising (picked s t l)) ranked-held (rising-picked held s t)) (omega (arith, length_seen)) layer same

    pub level_is : slice_get seen ((t - s - 1) / 2) ≡ Some (median layer)
    level_is =
        slice_get-get_or seen ((t - s - 1) / 2) (pos 0) (omega (arith, length_seen))
        ∙ ap Some (ap (λ n. get_or seen n (pos 0)) (sym middle_seen) ∙ sym level_seen)

    pub fee_is : balance ((t - s) / 2) (t - s - (t - s) / 2) 0 seen ≡ pos (distances (median layer) layer)
    fee_is =
        let up = subst (λ l. Rising (picked s t l)) ranked-held (rising-picked held s t) in
        let e : upper seen ≡ (t - s) / 2 = omega (arith, length_seen, middle_seen) in
        let f : suc (middle seen) ≡ t - s - (t - s) / 2 = omega (arith, middle_seen) in
        ap (λ n. balance n (t - s - (t - s) / 2) 0 seen) (sym e)
        ∙ (ap (λ n. balance (upper seen) n 0 seen) (sym f)
        ∙ (balance-middle seen up (omega (arith, length_seen))
        ∙ ap pos (same.sums (distance (middle_of seen)) ∙ ap (λ m. distances m layer) (sym level_seen))))

  -- one reading more
  module _ (x : ℤ) where
    abbrev more : List Place
    more = ranked_with (place x (length ps)) ps

    more_ranked : more ≡ ranked (held ++ (x ∷ []))
    more_ranked =
        ap (λ n. ranked_with (place x n) ps) (sym (length_held ps))
        ∙ (ap (ranked_with (place x (length held))) (sym ranked-held) ∙ sym (ranked-push held x))

    more_order : in_rank more ≡ true
    more_order = ap in_rank more_ranked ∙ test_from_ranked (held ++ (x ∷ []))

    more-held : readings_of more ≡ held ++ (x ∷ [])
    more-held = ap readings_of more_ranked ∙ readings_of-ranked (held ++ (x ∷ []))

-- it is put in at its rank
module _ (ps : List Place) (i n : ℕ) (x : ℤ) (order : in_rank ps ≡ true) (at : i ≡ rank x ps) (last : n ≡ length ps) where
  put_in : insert ps i (place x n) ≡ more ps order x
  put_in = ap (λ k. insert ps k (place x n)) at ∙ ap (λ k. ranked_with (place x k) ps) last

  pub put_order : in_rank (insert ps i (place x n)) ≡ true
  put_order = ap in_rank put_in ∙ more_order ps order x

  pub put_held : readings_of (insert ps i (place x n)) ≡ readings_of ps ++ (x ∷ [])
  put_held = ap readings_of put_in ∙ more-held ps order x

  pub put_numbers : all_numbers (readings_of ps) ≡ true → number_reading x ≡ true → all_numbers (readings_of (insert ps i (place x n))) ≡ true
  put_numbers h l = ap all_numbers put_held ∙ pass_push number_reading (readings_of ps) x h l
