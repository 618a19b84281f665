-- `Places` says which values are the tiling's.
mod Places
