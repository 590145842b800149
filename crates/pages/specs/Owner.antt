-- The owners of a page as the table byte has them, each by its number: it computes at a case, so that a caller's clause says `own 3 b`.
use Rattle.std.specs.Prelude.{ℕ}
use Rattle.rules.specs.Machine.{plain, calling_area, monitor, pool_free, pool_in_use, vmsa_area}
use Rattle.pages.specs.declared.byte.Owner.{Owner}
use Rattle.pages.specs.declared.byte.Owner.TheVariants.{Plain, CallingArea, Monitor, PoolFree, PoolInUse, VmsaArea, Nobody6, Nobody7}

abbrev pub owner_number : Owner → ℕ
owner_number Plain = plain
owner_number CallingArea = calling_area
owner_number Monitor = monitor
owner_number PoolFree = pool_free
owner_number PoolInUse = pool_in_use
owner_number VmsaArea = vmsa_area
owner_number Nobody6 = 6
owner_number Nobody7 = 7
