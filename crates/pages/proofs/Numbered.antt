-- An owner's number is what `as u8` makes of it.
-- Assumes nothing.
use mathlib.Core.Path.{◌≡◌, refl}
use denote.Enum.Declared.{tag_of}
use Rattle.pages.specs.Owner.{owner_number}
use Rattle.pages.specs.declared.byte.Owner.{Owner}
use Rattle.pages.specs.declared.byte.Owner.TheVariants.{Plain, CallingArea, Monitor, PoolFree, PoolInUse, VmsaArea, Nobody6, Nobody7}
use Rattle.pages.specs.contracts.byte.Owner.{the_type}

pub numbered : (who : Owner) → tag_of the_type who ≡ owner_number who
numbered Plain = refl
numbered CallingArea = refl
numbered Monitor = refl
numbered PoolFree = refl
numbered PoolInUse = refl
numbered VmsaArea = refl
numbered Nobody6 = refl
numbered Nobody7 = refl
