-- Pages given back, one more after those that were passed, and what that is on the machine whole.
-- Assumes nothing.
use mathlib.Core.Path.{◌≡◌, refl, sym, ◌∙◌, ap}
use mathlib.Core.Bool.{cond}
use mathlib.Core.List.{List, [], ◌∷◌, ◌++◌, append-nil}
use Prim.Native.Nat.{ℕ, ◌+◌, ◌*◌, ◌<◌, ◌≤◌}
use native.Mathlib.Omega.{arith}
use native.Mathlib.Numerals.{add-one}
use lib.ListN.{length, get_or, take, drop, take-append-drop}
use lib.Seq.{length-take-le, take_at}
use Rattle.std.specs.Prelude.{Ok, Err}
use Rattle.rules.specs.declared.Refusal.TheVariants.{Address}
use Rattle.rules.specs.Words.{page_size, most_pages, little, places, each}
use Rattle.rules.specs.Machine.{Lent, ◌▷◌, page_of, offset_of, own, plain, grant, change, write, with_memory, written}
use Rattle.rules.specs.Lists.{bad_list_page}
use Rattle.rules.specs.Calls.{is_free, give_back, gpas, withdrawn_pages, withdrawn}
use Rattle.rules.specs.Flat.{Buffers, buffers, parts, parted, memory_sized}
use Rattle.laws.specs.Alone.{table_alone}
use Rattle.laws.specs.Tested.{Tested}
use Rattle.laws.proofs.Counts.{getD_not_revised, table_each, memory_each, sheet_each}
use Rattle.laws.proofs.FlatSteps.{sizes}
use Rattle.laws.proofs.Numbers.{length_little}
use Rattle.laws.proofs.Tested.{pages_tested, memory_tested}
use Rattle.laws.proofs.Ranges.{by_test, each_append, places_append, rising_places, rising→outside}
use Rattle.laws.proofs.Writes.{written_append}
use Rattle.laws.proofs.Withdrawals.{gpas_append, length_gpas, places_more, written_apart}
use Rattle.lists.proofs.Page.{accepted, list_page_bytes, page_below}
use Rattle.withdraw_call.specs.declared.GpaList.{GpaList}
use Rattle.withdraw_call.specs.Given.{named, free_below, freed, Given}

-- ---- one page more

-- it is one of the free pages, or not
pub free_more : (p : ℕ) (table : List ℕ) → p < length table
    → free_below (p + 1) table ≡ cond (is_free (get_or table p 0)) (free_below p table ++ p ∷ []) (free_below p table)
unfolding places
free_more p table h =
    rw (add-one, places_more is_free table p 0 h) (by_test (is_free (get_or table p 0)) (λ t. rw t) (λ t. rw t (append-nil _)))

-- its byte is as it was, while the free ones before it are given back
pub not_passed : (vmpl p : ℕ) (table : List ℕ) → p < length table → get_or (each (freed vmpl) (free_below p table) table) p 0 ≡ get_or table p 0
unfolding freed
not_passed vmpl p table h =
    getD_not_revised (λ b. b ▷ own plain ▷ grant vmpl) 0 (free_below p table) table p
    (rising→outside p (rising_places is_free 0 (take p table)) (λ _. omega (arith, length-take-le p table (omega arith))))

-- it is given back after those, and listed after them
pub freed_more : (vmpl p : ℕ) (ps table : List ℕ) → each (freed vmpl) (ps ++ p ∷ []) table ≡ freed vmpl p (each (freed vmpl) ps table)
unfolding each
freed_more vmpl p ps table = each_append (freed vmpl) ps (p ∷ []) table

pub listed_more : (page at p : ℕ) (ps : List ℕ) (pages : List (List ℕ)) → page < length pages
    → written page at (gpas (ps ++ p ∷ [])) pages ≡ written page (at + 8 * length ps) (little 8 (page_size * p)) (written page at (gpas ps) pages)
unfolding gpas
listed_more page at p ps pages h =
    rw (← length_gpas ps, gpas_append ps (p ∷ []), append-nil (little 8 (page_size * p))) (sym (written_append pages page h at (gpas ps) (little 8 (page_size * p))))

-- no room for more
pub full : (p room : ℕ) (table : List ℕ) → length (free_below p table) ≡ room → take room (places is_free 0 table) ≡ free_below p table
full p room table e =
    let rest = places is_free (0 + length (take p table)) (drop p table) in
    let split : places is_free 0 table ≡ free_below p table ++ rest
    = ap (places is_free 0) (sym (take-append-drop p table)) ∙ places_append is_free 0 (take p table) (drop p table) in
    rw split (take_at (free_below p table) rest room e)

-- ---- the whole call

-- a list that passed its test is in a page of the table
pub list_below : (list : GpaList) (vmpl rcx : ℕ) (table : List ℕ)
    → Ok list ≡ cond (bad_list_page vmpl rcx (table_alone table)) (Err Address) (Ok (named vmpl rcx)) → list.page < length table
list_below list vmpl rcx table told =
    let passed = accepted _ _ _ _ told in
    let b = buffers [] table [] in
    rw passed.1 (page_below vmpl rcx b (list_page_bytes vmpl rcx b ∙ passed.0))

-- a tested machine has no more pages than it may
pub most_tested : (b : Buffers) (caller : ℕ) → Tested b caller → length b.table ≤ most_pages
unfolding memory_sized
most_tested b caller t = (sizes _ _ (memory_tested b caller t)).most

-- the pages are given and their gPAs listed, and then the count n is written, which the definition writes before the gPAs
pub counted : (vmpl rcx n : ℕ) (list : GpaList) (m : Lent) → list ≡ named vmpl rcx → page_of rcx < length m.memory → n ≡ length (take list.room (places is_free 0 m.table))
    → withdrawn vmpl rcx m
    ≡ (m ▷ each (give_back list.vmpl) (take list.room (places is_free 0 m.table))
    ▷ write list.page (list.offset + 8) (gpas (take list.room (places is_free 0 m.table)))
    ▷ write list.page list.offset (little 2 n))
unfolding withdrawn withdrawn_pages give_back write with_memory
counted vmpl rcx n list m e h many =
    let ps = withdrawn_pages rcx m in
    rw (many, e, memory_each (λ b. b ▷ own plain ▷ grant vmpl) ps m)
    (rw (written_apart m.memory (page_of rcx) (offset_of rcx) (offset_of rcx + 8) (little 2 (length ps)) (gpas ps) h (omega (arith, length_little 2 (length ps)))))

-- the same of a tested machine that is lent as bytes, once its list passed the test
pub counted_bytes : (vmpl rcx caller n : ℕ) (list : GpaList) (memory table sheet memory' table' memory'' : List ℕ) → Tested (buffers memory table sheet) caller
    → Ok list ≡ cond (bad_list_page vmpl rcx (table_alone table)) (Err Address) (Ok (named vmpl rcx))
    → Given list (take list.room (places is_free 0 table)) memory table memory' table' n
    → parts page_size memory'' ≡ written list.page list.offset (little 2 n) (parts page_size memory')
    → withdrawn vmpl rcx (parted (buffers memory table sheet)) ≡ parted (buffers memory'' table' sheet)
unfolding give_back write with_memory parted freed
counted_bytes vmpl rcx caller n list memory table sheet memory' table' memory'' t told g wrote =
    let m : Lent = parted (buffers memory table sheet) in
    let f : ℕ → ℕ = λ b. b ▷ own plain ▷ grant list.vmpl in
    let ps = take list.room (places is_free 0 table) in
    let e : list ≡ named vmpl rcx = (accepted _ _ _ _ told).1 in
    let below : page_of rcx < length (parts page_size memory) = rw (pages_tested _ caller t) (rw e at (list_below list vmpl rcx table told)) in
    let pages : parts page_size memory'' ≡ written list.page list.offset (little 2 n) (written list.page (list.offset + 8) (gpas ps) (each (change f) ps m).memory)
    = rw (wrote, g.listed, memory_each f ps m) in
    let bytes : table' ≡ (each (change f) ps m).table = g.freed ∙ sym (table_each f (change f) (λ p m. refl) ps m) in
    counted vmpl rcx n list m e below g.many ∙ (λ i. record { memory = sym pages i; table = sym bytes i; sheet = sheet_each f ps m i })
