mod Places
mod GoodPaths
mod Partly
mod NewRows
mod Related
mod Meets
