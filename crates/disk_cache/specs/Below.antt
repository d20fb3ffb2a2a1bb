-- The disk below one that keeps readings.
use Rattle.disk.specs.declared.device.Disk.{Ghosts}
use Rattle.disk_cache.specs.declared.cached_disk.CachedDisk.{CachedDisk}

module _ {D : Type 0} {g : Ghosts D} where
  -- the disk that is read and written
  abbrev pub below : CachedDisk D g → D
  below cached = cached.disk
