mod Closures
mod Crossing
