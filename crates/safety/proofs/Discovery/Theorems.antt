-- A proof for each statement about the discovery fields.
use mathlib.Core.Path.{◌≡◌, refl, sym, ◌∙◌, ap}
use mathlib.Core.Logic.{◌⊎◌, inl, inr, ⊎_map, ⊎_elim}
use mathlib.Core.Bool.{true, false, cond, not, ◌&&◌, ◌||◌, and-eq-true_iff}
use mathlib.Core.List.{List}
use Prim.Native.Nat.{ℕ, ◌+◌, ◌*◌, ◌^◌, ◌<◌, ◌≤◌}
use native.Mathlib.Omega.{arith}
use lib.Dec.{eqb, leb, ltb}
use lib.ListN.{length}
use lib.Seq.{sets, length-sets}
use borrow.Author.Tests.{eqb-true, eqb-false, eq-eqb, ne_eqb, ltb-false, not-false}
use Rattle.std.specs.Prelude.{Ok, Err}
use Rattle.rules.specs.declared.Plan.{Plan}
use Rattle.rules.specs.declared.Discovery.{Discovery}
use Rattle.rules.specs.declared.DiscoveryError.TheVariants.{UnalignedBase, UnalignedSize, UnalignedArea, PastEnd, AreaInside, NoMonitor, WrongLength}
use Rattle.rules.specs.Words.{page_size, most_pages, number}
use Rattle.rules.specs.Answers.{Answered, refuse, launched_number}
use Rattle.rules.specs.Launch.{in_monitor, out_of_range, areas_meet}
use Rattle.rules.specs.Flat.{parted, launch_bytes}
use Rattle.rules.specs.Discovery.{Located, located_number, discovery_of, discovery_bytes, fields_size, announce, discover}
use Rattle.rules.specs.Promises.{AnnouncePromise, DiscoverPromise, MonitorAnnouncePromise, MonitorDiscoverPromise}
use Rattle.laws.proofs.Numbers.{number_below, getD_sets_elsewhere}
use Rattle.laws.proofs.Ranges.{by_test, or_false}
use Rattle.laws.proofs.FlatLaunch.{in_range}
use Rattle.safety.specs.Determined.{AnswersToldApart, ToldApart}
use Rattle.safety.specs.Discovery.{Fit, Announced, In64Bits, WriterTakes, WriterAnswers, WriterWrites, WriterRefuses, ReaderTakes, ReaderAnswers}
use Rattle.safety.specs.Discovery.{ReaderHandsOut, ReaderRefuses, Size0IsNoMonitor, ReadBack, LaunchReadBack, LocatedToldApart}
use Rattle.safety.specs.Discovery.{AnnounceDetermined, DiscoverDetermined, MonitorAnnounceDetermined, MonitorDiscoverDetermined}
use Rattle.safety.proofs.Branches.{passed}
use Rattle.safety.proofs.Checks.{launch_made}
use Rattle.safety.proofs.Sound.Sizes.{few_pages}
use Rattle.safety.proofs.Bytes.Parted.{parted_sized}
use Rattle.safety.proofs.Bytes.Steps.{launch_told}
use Rattle.safety.proofs.Numbers.{found_again, answers_told_apart}
use Rattle.safety.proofs.Results.{determined}
use Rattle.safety.proofs.Discovery.Checks.{answered, told_past, stops, kept_past, kept_refused, range_told, range_kept, range_passed, range_refused}
use Rattle.safety.proofs.Discovery.Checks.{outside_of, fit_of, passes_of}
use Rattle.safety.proofs.Discovery.Fields.{InWidth, length_fields, stored, handed_out}

-- ---- the writer

module _ (base size area vmpl : ℕ) where
  -- what it is given
  abbrev given : Discovery
  given = record { base = base; size = size; area = area; version = 1; vmpl = vmpl }

  -- numbers of 64 bits fit
  given_fits : In64Bits base size area → InWidth given
  unfolding In64Bits
  given_fits bounds =
      record { base_fits = omega (arith, bounds); size_fits = omega (arith, bounds); area_fits = omega (arith, bounds); version_fits = omega arith }

  module _ (page : List ℕ) where
    -- where the answer is 0, all checks were passed
    writer_passed : located_number (announce base size area vmpl page).answer ≡ 0 → (length page ≡ 4096) × Fit base size area
    unfolding announce located_number page_size
    writer_passed e =
        let sized = told_past page _ (Err WrongLength) _ (omega arith) e in
        let range = range_told page _ _ sized.1 in
        let some = told_past page _ (Err NoMonitor) _ (omega arith) range.1 in
        (eqb-true _ _ (not-false _ sized.0), fit_of _ range.0 some.0)

    -- what it then leaves
    abbrev written : Answered Located (List ℕ)
    written = record { answer = Ok tt; after = sets page 0x140 (discovery_bytes given) }

    -- and in a page of right length what is fit is written
    writer_told : length page ≡ 4096 → Fit base size area → announce base size area vmpl page ≡ written
    unfolding announce refuse page_size
    writer_told sized fit = let passes = passes_of given fit in rw (eq-eqb _ _ sized, passes.1) (range_passed page given written passes.0)

pub writer_takes : WriterTakes
unfolding WriterTakes located_number
writer_takes base size area vmpl page =
    (writer_passed base size area vmpl page, λ sized fit. rw (writer_told base size area vmpl page sized fit))

pub writer_answers : WriterAnswers
unfolding WriterAnswers announce located_number page_size
writer_answers base size area vmpl page =
    let d = given base size area vmpl in (
      λ other. stops page _ (Err WrongLength) _ (rw (ne_eqb _ _ other)),
      λ k sized refused. ap answered (passed page _ (Err WrongLength) _ (rw (eq-eqb _ _ sized)))
          ∙ ⊎_elim (λ e. e) (λ left. ap answered (range_passed page d _ left.0) ∙ stops page _ (Err NoMonitor) _ (eq-eqb _ _ left.1) ∙ sym left.2)
          (range_refused d page _ k refused),
    )

pub writer_writes : WriterWrites
unfolding WriterWrites
writer_writes base size area vmpl page bounds e =
    let d = given base size area vmpl in
    let taken = writer_passed base size area vmpl page e in
    rw (writer_told base size area vmpl page taken.0 taken.1)
    (record {
      sized = length-sets page 0x140 (discovery_bytes d);
      there = stored d (given_fits base size area vmpl bounds) page 0x140 (omega (arith, taken.0));
      kept = λ k h. getD_sets_elsewhere page 0x140 (discovery_bytes d) k 0 (⊎_map (λ l. l) (λ l. omega (arith, length_fields d)) h);
    })

pub writer_refuses : WriterRefuses
unfolding WriterRefuses announce located_number
writer_refuses base size area vmpl page refused =
    kept_refused page (announce base size area vmpl page)
    (kept_past page _ (Err WrongLength) _ (range_kept page _ _ (kept_past page _ (Err NoMonitor) _ (inr refl)))) refused

-- ---- the reader

module _ (page fields : List ℕ) where
  -- what it sees
  abbrev seen : Discovery
  seen = discovery_of page

  -- where the answer is 0, all checks were passed
  reader_passed : located_number (discover page fields).answer ≡ 0
      → (length page ≡ 4096) × (length fields ≡ 32) × Fit seen.base seen.size seen.area
  unfolding discover located_number page_size fields_size
  reader_passed e =
      let sized = told_past fields _ (Err WrongLength) _ (omega arith) e in
      let both = (and-eq-true_iff (eqb (length page) 4096) (eqb (length fields) 32)).0 (not-false _ sized.0) in
      let some = told_past fields _ (Err NoMonitor) _ (omega arith) sized.1 in
      let range = range_told fields _ _ some.1 in
      (eqb-true _ _ both.0, eqb-true _ _ both.1, fit_of _ range.0 some.0)

  -- and with right lengths what is fit is handed out
  reader_told : length page ≡ 4096 → length fields ≡ 32 → Fit seen.base seen.size seen.area
      → discover page fields ≡ record { answer = Ok tt; after = discovery_bytes seen }
  unfolding discover refuse page_size fields_size
  reader_told sized room fit =
      let passes = passes_of seen fit in
      rw (eq-eqb _ _ sized, eq-eqb _ _ room, passes.1) (range_passed fields seen _ passes.0)

-- a length that is wrong fails the test of both
unsized : (page fields : List ℕ) → (length page ≡ 4096 → ⊥) ⊎ (length fields ≡ 32 → ⊥) → not (eqb (length page) 4096 && eqb (length fields) 32) ≡ true
unsized page fields (inl other) = rw (ne_eqb _ _ other)
unsized page fields (inr other) = by_test (eqb (length page) 4096) (λ t. rw (t, ne_eqb _ _ other)) (λ t. rw t)

pub reader_takes : ReaderTakes
unfolding ReaderTakes located_number discovery_of
reader_takes page fields = (reader_passed page fields, λ sized room fit. rw (reader_told page fields sized room fit))

pub reader_answers : ReaderAnswers
unfolding ReaderAnswers discover located_number page_size fields_size discovery_of
reader_answers page fields = (
  λ other. stops fields _ (Err WrongLength) _ (unsized page fields other),
  λ k sized room some refused. ap answered (passed fields _ (Err WrongLength) _ (rw (eq-eqb _ _ sized, eq-eqb _ _ room)))
      ∙ ap answered (passed fields _ (Err NoMonitor) _ (ne_eqb (number 8 page 0x148) 0 (omega (arith, some))))
      ∙ ⊎_elim (λ e. e) (λ left. absurd (omega (arith, some, left.1))) (range_refused (discovery_of page) fields _ k refused),
)

pub reader_hands_out : ReaderHandsOut
unfolding ReaderHandsOut discovery_of
reader_hands_out page fields bytes e =
    let taken = reader_passed page fields e in
    let below : (w at : ℕ) → number w page at < 256 ^ w = λ w at. number_below w page at (λ k b. bytes (at + k)) in
    let fits : InWidth (discovery_of page) = record { base_fits = below 8 _; size_fits = below 8 _; area_fits = below 8 _; version_fits = below 4 _ } in
    rw (reader_told page fields taken.0 taken.1 taken.2) (handed_out (discovery_of page) fits)

pub reader_refuses : ReaderRefuses
unfolding ReaderRefuses discover located_number
reader_refuses page fields refused =
    kept_refused fields (discover page fields)
    (kept_past fields _ (Err WrongLength) _ (kept_past fields _ (Err NoMonitor) _ (range_kept fields _ _ (inr refl)))) refused

pub size_0_is_no_monitor : Size0IsNoMonitor
unfolding Size0IsNoMonitor discover located_number page_size fields_size discovery_of
size_0_is_no_monitor page fields sized room none =
    ap answered (passed fields _ (Err WrongLength) _ (rw (eq-eqb _ _ sized, eq-eqb _ _ room))) ∙ stops fields _ (Err NoMonitor) _ (eq-eqb _ _ none)

-- ---- both

-- in what the writer wrote stands what it was given
same_seen : (base size area vmpl : ℕ) (page after : List ℕ) → Announced base size area vmpl page after → discovery_of after ≡ given base size area vmpl
unfolding discovery_of
same_seen base size area vmpl page after left =
    let there = left.there in
    λ i. record {
      base = there.base_there i;
      size = there.size_there i;
      area = there.area_there i;
      version = there.version_there i;
      vmpl = there.vmpl_there i;
    }

pub read_back : ReadBack
unfolding ReadBack WriterWrites located_number
read_back base size area vmpl page fields bounds room e =
    let after = (announce base size area vmpl page).after in
    let taken = writer_passed base size area vmpl page e in
    let left = writer_writes base size area vmpl page bounds e in
    let same = same_seen base size area vmpl page after left in
    let found = reader_told after fields (left.sized ∙ taken.0) room (rw same taken.1) in
    (rw found, rw (found, same) (handed_out (given base size area vmpl) (given_fits base size area vmpl bounds)))

-- ---- a launch

-- a plan in range has a monitor of some pages, and monitor and calling page below n
planned : (plan : Plan) (n : ℕ) → out_of_range plan n ≡ false → (plan.first + plan.count ≤ n) × (plan.calling < n) × (0 < plan.count)
unfolding out_of_range
planned plan n e =
    let monitor = ltb n (plan.first + plan.count) in
    let vmsa = leb n plan.vmsa in
    let calling = leb n plan.calling in
    let valid = ltb n plan.valid in
    let five = or_false (monitor || vmsa || calling || valid) (eqb plan.count 0) e in
    let two = (or_false (monitor || vmsa) calling (or_false (monitor || vmsa || calling) valid five.0).0).0 in
    (ltb-false _ _ (or_false monitor vmsa two).0, (in_range plan n e).1, omega (arith, eqb-false plan.count 0 five.1))

-- where no two areas meet, the calling page is below the monitor or behind it
calling_outside : (plan : Plan) → areas_meet plan ≡ false → (plan.calling < plan.first) ⊎ (plan.first + plan.count ≤ plan.calling)
unfolding areas_meet in_monitor
calling_outside plan e =
    outside_of plan.first plan.count plan.calling
    (or_false (eqb plan.vmsa plan.calling || in_monitor plan plan.vmsa) (in_monitor plan plan.calling) e).1

module _ (plan : Plan) (n : ℕ) (few : n ≤ most_pages) (within : out_of_range plan n ≡ false) where
  -- among so few pages, all addresses are of 64 bits
  plan_addresses : In64Bits (4096 * plan.first) (4096 * plan.count) (4096 * plan.calling)
  unfolding In64Bits most_pages
  plan_addresses = omega (arith, planned plan n within)

  -- and the monitor's range and the calling page are fit
  plan_fit : areas_meet plan ≡ false → Fit (4096 * plan.first) (4096 * plan.count) (4096 * plan.calling)
  unfolding most_pages
  plan_fit apart =
      record {
        apart = record {
          whole = record { base_whole = omega arith; size_whole = omega arith; area_whole = omega arith };
          within = omega (arith, planned plan n within);
          outside = ⊎_map (λ l. omega arith) (λ l. omega arith) (calling_outside plan apart);
        };
        some = omega (arith, planned plan n within);
      }

pub launch_read_back : LaunchReadBack
unfolding LaunchReadBack launched_number AnswersToldApart ToldApart WriterTakes ReadBack
launch_read_back n plan lent page fields zero sized room =
    let made = answers_told_apart.2 (launch_bytes n plan lent).answer (Ok tt) zero in
    let told = launch_told n plan lent made in
    let fit = launch_made plan (record { lent = parted lent }) (sym (ap (λ a. a.answer) told.2) ∙ made) in
    let few = few_pages (parted lent) (parted_sized lent told.0).tables in
    let taken = (writer_takes _ _ _ _ page).1 sized (plan_fit plan _ few fit.within fit.apart) in
    let back = read_back _ _ _ _ page fields (plan_addresses plan _ few fit.within) room taken in
    (taken, back.0, back.1)

-- ---- as Results and Numbers have it of the others

pub announce_determined : AnnounceDetermined
unfolding AnnounceDetermined AnnouncePromise
announce_determined base size area vmpl lent = determined _

pub discover_determined : DiscoverDetermined
unfolding DiscoverDetermined DiscoverPromise
discover_determined page lent = determined _

pub monitor_announce_determined : MonitorAnnounceDetermined
unfolding MonitorAnnounceDetermined MonitorAnnouncePromise
monitor_announce_determined base size area vmpl lent = determined _

pub monitor_discover_determined : MonitorDiscoverDetermined
unfolding MonitorDiscoverDetermined MonitorDiscoverPromise
monitor_discover_determined page lent = determined _

find_located : ℕ → Located
find_located n =
    cond (eqb n 0) (Ok tt)
    (cond (eqb n 1) (Err UnalignedBase)
    (cond (eqb n 2) (Err UnalignedSize)
    (cond (eqb n 3) (Err UnalignedArea)
    (cond (eqb n 4) (Err PastEnd)
    (cond (eqb n 5) (Err AreaInside)
    (cond (eqb n 6) (Err NoMonitor) (Err WrongLength)))))))

located_found : (a : Located) → find_located (located_number a) ≡ a
unfolding find_located located_number
located_found (Ok told) = refl
located_found (Err UnalignedBase) = refl
located_found (Err UnalignedSize) = refl
located_found (Err UnalignedArea) = refl
located_found (Err PastEnd) = refl
located_found (Err AreaInside) = refl
located_found (Err NoMonitor) = refl
located_found (Err WrongLength) = refl

pub located_told_apart : LocatedToldApart
unfolding LocatedToldApart
located_told_apart = found_again located_number find_located located_found
